use Rattle.std.proofs.Common.{◌≡◌, ◌++◌, ◌∷◌, [], drop, if◌then◌else◌, ap, ◌∙◌}
use Rattle.std.proofs.lemmas.List.{drop-append-le}
use Rattle.std.specs.List.{list_any}
use Rattle.tf_shard.specs.Ids.{same_id}
use Rattle.tf_shard.specs.Parts.{docs_of}
use Rattle.tf_shard.proofs.Ids.{is_new, count_fits}
use Rattle.tf_shard.proofs.entering.enter.Goals as goal

pub returns-clause-ok : goal.returns-clause-ok
returns-clause-ok c =
    let parts = c.args.parts.now in
    let keys = parts.ids.keys in
    let id = c.args.id.now in
    let whole = c.requires.whole in
    let new = is_new (docs_of parts) keys parts.count whole.entered whole.counted id c.requires.free c.requires.new in
    let entered : c.insert.new.self.keys ≡ keys ++ id ∷ [] =
    c.in_ok-insert.ensures.keys ∙ ap (λ i. if list_any (same_id i) keys then keys else keys ++ i ∷ []) c.in_ok-id.ensures
    ∙ ap (λ b. if b then keys else keys ++ id ∷ []) new in
    ap (drop parts.count) entered
    ∙ drop-append-le parts.count keys (id ∷ []) (count_fits (docs_of parts) keys parts.count whole.entered whole.counted)
