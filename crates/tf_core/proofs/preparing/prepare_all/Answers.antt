use Rattle.std.proofs.Common.{◌≡◌, [], ◌∷◌, ◌++◌, ap, sym, subst, ◌∙◌}
use Rattle.std.specs.Prelude.{reverse}
use Rattle.std.proofs.lemmas.List.{reverse-append}
use Rattle.tf_core.specs.Chain.{all_added, entries_in}
use Rattle.tf_core.specs.Made.{IsPreparedFor, pages_of}
use Rattle.tf_core.specs.Preparing.{AllFit}
use Rattle.tf_core.proofs.MoreSteps.{chain_more, fit_more, put_rows_more, same_more}
use Rattle.tf_core.proofs.preparing.prepare_all.Goals as goal

pub loop-entry-preserved : goal.loop-entry-preserved
loop-entry-preserved c =
    let l = c.loop-entry in
    let e = c.in-Some.entry in
    let p = c.in_ok-prepared.prepared in
    let now = c.push.new.self.items in
    let behind = c.pop.new.self.items in
    let more = c.in_ok-push.ensures.items in
    let next : reverse l.behind.items ≡ e ∷ reverse behind = ap reverse c.in-Some.ensures.items ∙ reverse-append behind (e ∷ []) in
    let is = subst (λ steps. IsPreparedFor (c.args.indices.now ++ all_added steps) (pages_of behind) e p) c.as_slice.ensures.value
    (subst (λ entries. IsPreparedFor (c.args.indices.now ++ all_added c.as_slice.result.now) (pages_of entries) e p) c.as_slice-in-Some.ensures.value c.in_ok-prepared.ensures) in
    record {
      same = same_more c.args.indices.now behind l.steps.items now p e more is (reverse behind) ∙ (ap (λ es. entries_in l.steps.items ++ es) (sym next) ∙ l.invariant.same);
      chain = chain_more c.args.indices.now behind l.steps.items now p e more is l.invariant.chain;
      fit = fit_more c.args.indices.now behind l.steps.items now p e more is (reverse behind) (subst (AllFit (c.args.indices.now ++ all_added l.steps.items)) next l.invariant.fit).1;
      put_rows = put_rows_more c.args.indices.now behind l.steps.items now p e more is l.behind.items c.in-Some.ensures.items l.invariant.put_rows;
    }
