use Rattle.std.proofs.Common.{◌≡◌, ◌++◌, sym, subst, ap, ◌∙◌}
use Rattle.std.specs.Option.{option_copied}
use Rattle.tf_model.specs.Keys.{key_of, keys_of, listed}
use Rattle.tf_page.specs.declared.fates.Fate.TheVariants.{Passed, LeftOut}
use Rattle.tf_page.specs.Fates.{fate_of}
use Rattle.tf_page.specs.Least.{IsLeastOf, above, greatest_of}
use Rattle.tf_page.proofs.FateLaws.{passed_more, out_more}
use Rattle.tf_page.proofs.least.Least.offer_of.Goals as goal

pub returns-in-Passed-clause-more : goal.returns-in-Passed-clause-more
unfolding keys_of
returns-in-Passed-clause-more c = λ ks least.
    let after = option_copied c.args.after in
    let found = key_of c.args.config.now c.args.doc.now in
    let is : fate_of after (greatest_of c.args.self.now) found ≡ Passed = sym (c.fate_of.ensures ∙ ap (λ g. fate_of after g found) c.greatest.ensures.key) ∙ c.in-Passed.is in
    passed_more after ks c.args.self.now c.greatest.ensures.ordered least found is

pub returns-in-LeftOut-clause-more : goal.returns-in-LeftOut-clause-more
unfolding keys_of
returns-in-LeftOut-clause-more c = λ ks least.
    let after = option_copied c.args.after in
    let found = key_of c.args.config.now c.args.doc.now in
    let is : fate_of after (greatest_of c.args.self.now) found ≡ LeftOut = sym (c.fate_of.ensures ∙ ap (λ g. fate_of after g found) c.greatest.ensures.key) ∙ c.in-LeftOut.is in
    subst (IsLeastOf (above after (ks ++ listed found))) (sym c.leave_out.ensures) (out_more after ks c.args.self.now c.greatest.ensures.ordered least found is)

pub returns-in_ok-offer-in-Wanted-clause-more : goal.returns-in_ok-offer-in-Wanted-clause-more
unfolding keys_of
returns-in_ok-offer-in-Wanted-clause-more c = λ ks least.
    let after = option_copied c.args.after in
    subst (λ found. IsLeastOf (above after (ks ++ listed found)) c.offer.new.self) c.in_ok-key_of-in-Wanted.ensures (c.in_ok-offer-in-Wanted.ensures.more ks least)
