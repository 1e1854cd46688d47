use Rattle.std.proofs.Common.{◌≡◌, ◌+◌, ◌++◌, ◌∷◌, [], length, map, take, sym, ap, ◌∙◌, arith, min}
use Rattle.std.proofs.lemmas.List.{length-map, length-take, map-append, take_more}
use Rattle.std.specs.Option.{option_copied, option_map, option_to_list}
use Rattle.tf_model.specs.Latest.{row_named}
use Rattle.tf_latest.specs.Newest.{named}
use Rattle.tf_latest.proofs.NewestLaws.{named-push}
use Rattle.tf_latest.proofs.naming.named_rows.Goals as goal

-- src/naming.rt:20:5
pub loop-at-preserved : goal.loop-at-preserved
loop-at-preserved c =
    let keys = c.args.keys.now in
    let found = c.args.found.now in
    let at = c.loop-at.at in
    let key = c.index-keys-at.result in
    let doc = c.index-found-at.result in
    let keys_more : take (at + 1) keys ≡ take at keys ++ key ∷ [] = take_more keys at key c.loop-at-test.true ∙ ap (λ k. take at keys ++ k ∷ []) (sym c.index-keys-at.is) in
    let found_more : take (at + 1) found ≡ take at found ++ doc ∷ [] = take_more found at doc (omega (arith, c.loop-at-test.true, c.requires.many)) ∙ ap (λ d. take at found ++ d ∷ []) (sym c.index-found-at.is) in
    let many : length (map option_copied (take at found)) ≡ length (take at keys) =
    length-map (take at found) option_copied ∙ length-take at found ∙ ap (min at) c.requires.many ∙ sym (length-take at keys) in
    c.in_ok-push_named.ensures ∙ ap (λ rows. rows ++ option_to_list (option_map (row_named key) (option_copied doc))) c.loop-at.invariant
    ∙ sym (named-push (take at keys) (map option_copied (take at found)) key (option_copied doc) many)
    ∙ (λ i. named (sym keys_more i) ((sym (map-append option_copied (take at found) (doc ∷ [])) ∙ ap (map option_copied) (sym found_more)) i))
