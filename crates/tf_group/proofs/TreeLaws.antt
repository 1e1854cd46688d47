-- What trees are at their tops, both ways.
use Rattle.std.proofs.Common.{◌≡◌, ℕ, ℤ, Bool, true, false, List, Some, rules, sym, ap, ◌∙◌}
use Rattle.tf_model.specs.declared.tree.Tree.{Tree, out-Tree, roll-Tree}
use Rattle.tf_model.specs.declared.tree.Tree.TheOpen.{Tree-F}
use Rattle.tf_model.specs.declared.tree.Tree.TheVariants as t
use Rattle.tf_model.specs.declared.tree.Tree.TheViews.{the_lemmas, roll-out-Tree}
use Rattle.tf_model.specs.Trees.{text_level, number_level, truth_level, items_level, text_in, number_in, truth_in, items_in}
use Rattle.tf_group.specs.Reading.{null_level, is_null}

pub null_null : is_null t.Null ≡ true
unfolding is_null
null_null = search (rules, the_lemmas)

pub null_bool : (b : Bool) → is_null (t.Bool b) ≡ false
unfolding is_null
null_bool b = search (rules, the_lemmas)

pub null_number : (n : ℤ) → is_null (t.Num n) ≡ false
unfolding is_null
null_number n = search (rules, the_lemmas)

pub null_text : (s : List ℕ) → is_null (t.Str s) ≡ false
unfolding is_null
null_text s = search (rules, the_lemmas)

pub truth_bool : (b : Bool) → truth_in (t.Bool b) ≡ Some b
unfolding truth_in
truth_bool b = search (rules, the_lemmas)

pub number_number : (n : ℤ) → number_in (t.Num n) ≡ Some n
unfolding number_in
number_number n = search (rules, the_lemmas)

pub text_text : (s : List ℕ) → text_in (t.Str s) ≡ Some s
unfolding text_in
text_text s = search (rules, the_lemmas)

pub items_array : (items : List Tree) → items_in (t.Arr items) ≡ Some items
unfolding items_in
items_array items = search (rules, the_lemmas)

null_roll : (x : Tree-F Tree) → null_level x ≡ true → t.Null ≡ roll-Tree x
null_roll Tree-F.Null e = sym t.rolls-Null
null_roll (Tree-F.Bool b) e = absurd (cc)
null_roll (Tree-F.Num n) e = absurd (cc)
null_roll (Tree-F.Str s) e = absurd (cc)
null_roll (Tree-F.Arr items) e = absurd (cc)
null_roll (Tree-F.Obj members) e = absurd (cc)

pub is_null_tree : (tree : Tree) → is_null tree ≡ true → t.Null ≡ tree
unfolding is_null
is_null_tree tree e = null_roll (out-Tree tree) e ∙ roll-out-Tree tree

truth_roll : (x : Tree-F Tree) (b : Bool) → truth_level x ≡ Some b → t.Bool b ≡ roll-Tree x
truth_roll Tree-F.Null b e = absurd (cc)
truth_roll (Tree-F.Bool c) b e = let same : b ≡ c = cc in ap t.Bool same ∙ sym (t.rolls-Bool c)
truth_roll (Tree-F.Num n) b e = absurd (cc)
truth_roll (Tree-F.Str s) b e = absurd (cc)
truth_roll (Tree-F.Arr items) b e = absurd (cc)
truth_roll (Tree-F.Obj members) b e = absurd (cc)

pub truth_tree : (tree : Tree) (b : Bool) → truth_in tree ≡ Some b → t.Bool b ≡ tree
unfolding truth_in
truth_tree tree b e = truth_roll (out-Tree tree) b e ∙ roll-out-Tree tree

number_roll : (x : Tree-F Tree) (n : ℤ) → number_level x ≡ Some n → t.Num n ≡ roll-Tree x
number_roll Tree-F.Null n e = absurd (cc)
number_roll (Tree-F.Bool b) n e = absurd (cc)
number_roll (Tree-F.Num m) n e = let same : n ≡ m = cc in ap t.Num same ∙ sym (t.rolls-Num m)
number_roll (Tree-F.Str s) n e = absurd (cc)
number_roll (Tree-F.Arr items) n e = absurd (cc)
number_roll (Tree-F.Obj members) n e = absurd (cc)

pub number_tree : (tree : Tree) (n : ℤ) → number_in tree ≡ Some n → t.Num n ≡ tree
unfolding number_in
number_tree tree n e = number_roll (out-Tree tree) n e ∙ roll-out-Tree tree

text_roll : (x : Tree-F Tree) (s : List ℕ) → text_level x ≡ Some s → t.Str s ≡ roll-Tree x
text_roll Tree-F.Null s e = absurd (cc)
text_roll (Tree-F.Bool b) s e = absurd (cc)
text_roll (Tree-F.Num n) s e = absurd (cc)
text_roll (Tree-F.Str r) s e = let same : s ≡ r = cc in ap t.Str same ∙ sym (t.rolls-Str r)
text_roll (Tree-F.Arr items) s e = absurd (cc)
text_roll (Tree-F.Obj members) s e = absurd (cc)

pub text_tree : (tree : Tree) (s : List ℕ) → text_in tree ≡ Some s → t.Str s ≡ tree
unfolding text_in
text_tree tree s e = text_roll (out-Tree tree) s e ∙ roll-out-Tree tree

items_roll : (x : Tree-F Tree) (items : List Tree) → items_level x ≡ Some items → t.Arr items ≡ roll-Tree x
items_roll Tree-F.Null items e = absurd (cc)
items_roll (Tree-F.Bool b) items e = absurd (cc)
items_roll (Tree-F.Num n) items e = absurd (cc)
items_roll (Tree-F.Str s) items e = absurd (cc)
items_roll (Tree-F.Arr others) items e = let same : items ≡ others = cc in ap t.Arr same ∙ sym (t.rolls-Arr others)
items_roll (Tree-F.Obj members) items e = absurd (cc)

pub items_tree : (tree : Tree) (items : List Tree) → items_in tree ≡ Some items → t.Arr items ≡ tree
unfolding items_in
items_tree tree items e = items_roll (out-Tree tree) items e ∙ roll-out-Tree tree
