use Rattle.std.proofs.Common.{Some, ap, ◌∙◌, cond}
use Rattle.std.specs.BTreeMap.{get}
use Rattle.std.specs.Cmp.Lexicographic.{slice_cmp}
use Rattle.std.specs.Ordering.{nat_cmp}
use Rattle.std.proofs.lemmas.Map.Text.{is_eq-slice_cmp}
use Rattle.tf_decide.proofs.bulk.put_place.Goals as goal

pub returns : goal.returns
returns c = λ q. c.in_ok-insert.ensures.updates.0 q ∙ ap (λ b. cond b (Some c.args.place) (get (slice_cmp nat_cmp) c.args.places.now q)) (is_eq-slice_cmp c.args.name q)
