use Rattle.std.proofs.Common.{◌≡◌, List, ℕ, Some, subst, cond}
use Rattle.std.specs.BTreeMap.{get}
use Rattle.std.specs.Cmp.Lexicographic.{slice_cmp}
use Rattle.std.specs.Ordering.{nat_cmp}
use Rattle.std.specs.Str.{bytes_eq}
use Rattle.std.proofs.lemmas.Result.{on_err_weaker, on_ok_weaker}
use Rattle.tf_core.proofs.IdsLaws.{set_enters, set_same}
use Rattle.tf_core.proofs.ids.Ids.enter.Goals as goal

pub returns-clause-ok : goal.returns-clause-ok
returns-clause-ok c =
    on_ok_weaker c.enter_in.result (λ h. set_enters c.args.self.now.maps.items c.make_maps.new.maps.items c.args.index c.enter_in.new.map c.index_mut.result.now c.in_ok-make_maps.ensures.same c.in_ok-make_maps.ensures.there c.index_mut.ensures.value c.args.id.now c.args.place
    (subst (λ name. (q : List ℕ) → get (slice_cmp nat_cmp) c.enter_in.new.map q ≡ cond (bytes_eq name q) (Some c.args.place) (get (slice_cmp nat_cmp) c.index_mut.result.now q)) c.in_ok-name.ensures h)) c.enter_in.ensures.ok

pub returns-clause-err : goal.returns-clause-err
returns-clause-err c =
    on_err_weaker c.enter_in.result (λ h. set_same c.args.self.now.maps.items c.make_maps.new.maps.items c.args.index c.enter_in.new.map c.index_mut.result.now c.in_ok-make_maps.ensures.same c.in_ok-make_maps.ensures.there c.index_mut.ensures.value h) c.enter_in.ensures.err
