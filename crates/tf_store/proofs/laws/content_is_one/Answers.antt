use Rattle.tf_store.proofs.Contents.{content_is_one}
use Rattle.tf_store.proofs.laws.content_is_one.Goals as goal

pub returns : goal.returns
returns c = content_is_one
