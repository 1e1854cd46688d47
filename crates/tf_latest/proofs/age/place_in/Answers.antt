use Rattle.std.proofs.Common.{◌≡◌, ◌+◌, true, cond, drop, get_or, nat_eq, Some, sym, ap, ◌∙◌, arith}
use Rattle.std.proofs.lemmas.Bool.Decides.{nat_tests}
use Rattle.std.proofs.lemmas.Iterator.Adapters.{position_from-zero}
use Rattle.std.proofs.lemmas.List.{drop_all, drop_more}
use Rattle.std.specs.List.{position_from}
use Rattle.std.specs.Prelude.{None, unwrap_or}
use Rattle.tf_latest.proofs.age.place_in.Goals as goal

pub returns-then-source-from : goal.returns-then-source-from
returns-then-source-from c =
    let test = nat_eq c.args.index in
    let sources = c.args.sources.now in
    let at = c.loop-place.place in
    let is : get_or sources at 0 ≡ c.args.index = c.if-source-from.true ∙ c.from.ensures in
    let here : test (get_or sources at 0) ≡ true = grind (arith, nat_tests) in
    let found : position_from test 0 sources ≡ Some at =
    sym c.loop-place.invariant ∙ ap (position_from test at) (drop_more sources at 0 c.loop-place-test.true) ∙ ap (λ b. cond b (Some at) (position_from test (at + 1) (drop (at + 1) sources))) here in
    sym (ap (λ place. unwrap_or place 0) (position_from-zero test sources ∙ found))

pub returns : goal.returns
returns c =
    let test = nat_eq c.args.index in
    let sources = c.args.sources.now in
    let at = c.loop-place.place in
    let found : position_from test 0 sources ≡ None = sym c.loop-place.invariant ∙ ap (position_from test at) (drop_all at sources c.loop-place-test.false) in
    sym (ap (λ place. unwrap_or place 0) (position_from-zero test sources ∙ found))
