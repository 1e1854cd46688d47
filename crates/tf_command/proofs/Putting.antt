-- Members that go to their places one after the other, the last one first.
use Rattle.std.proofs.Common.{◌≡◌, ℕ, Bool, true, false, cond, List, [], ◌∷◌, ◌++◌, Some, refl, sym, ap, subst, ◌∙◌, pos}
use Rattle.std.specs.Prelude.{codes, unwrap_or, Option}
use Rattle.std.specs.Option.{option_and_then}
use Rattle.std.specs.Str.{bytes_eq}
use Rattle.std.proofs.lemmas.Slice.Eq.{bytes_eq-Decides}
use Rattle.tf_model.specs.declared.tree.Tree.{Tree}
use Rattle.tf_model.specs.declared.tree.Tree.TheVariants as tree
use Rattle.tf_model.specs.Trees.{text_in, number_in, truth_in, member_at}
use Rattle.tf_command.specs.declared.members.Members.{Members}
use Rattle.tf_command.specs.Commands.{members_of, read_at}
use Rattle.tf_command.specs.Forms.{object_in, array_in, size_in, lane_in, checkpoint_in, moment_in, documents_in}
use Rattle.tf_command.specs.Places.{nothing_said, put_in}

-- these, put on what is said already
abbrev pub put_all : List (List ℕ × Tree) → Members → Members
put_all [] m = m
put_all (x ∷ xs) m = put_in x.0 x.1 (put_all xs m)

pub put_last : (xs : List (List ℕ × Tree)) (x : List ℕ × Tree) (m : Members) → put_all (xs ++ x ∷ []) m ≡ put_all xs (put_in x.0 x.1 m)
put_last [] x m = refl
put_last (y ∷ ys) x m = ap (put_in y.0 y.1) (put_last ys x m)

skip : {A : Type 0} (b : Bool) (x y z : A) → b ≡ false → y ≡ z → cond b x y ≡ z
skip b x y z e rest = ap (λ c. cond c x y) e ∙ rest

other : {A : Type 0} (reads : Tree → Option A) (name wanted : List ℕ) (t : Tree) (ms : List (List ℕ × Tree))
    → bytes_eq name wanted ≡ false → read_at reads ((name, t) ∷ ms) wanted ≡ read_at reads ms wanted
other reads name wanted t ms e = ap (λ b. option_and_then reads (cond b (Some t) (member_at ms wanted))) e

by_either : {P : Type 0} (b : Bool) → (b ≡ true → P) → (b ≡ false → P) → P
by_either true is_true is_false = is_true refl
by_either false is_true is_false = is_false refl

pub differs : (name wanted : List ℕ) → ¬ (name ≡ wanted) → bytes_eq name wanted ≡ false
differs name wanted no_name = by_either (bytes_eq name wanted) (λ e. absurd (no_name ((bytes_eq-Decides name wanted).0 e))) (λ e. e)

abbrev Goes : List ℕ → Tree → List (List ℕ × Tree) → Type 0
Goes name t ms = put_in name t (members_of ms) ≡ members_of ((name, t) ∷ ms)

-- a member of one of the names goes to its place
named : (name wanted : List ℕ) (t : Tree) (ms : List (List ℕ × Tree)) → Goes wanted t ms → bytes_eq name wanted ≡ true → Goes name t ms
named name wanted t ms h e = subst (λ n. Goes n t ms) (sym ((bytes_eq-Decides name wanted).0 e)) h

-- a member of no such name goes nowhere
pub unplaced : (name : List ℕ) (t : Tree) (m : Members)
    → bytes_eq name (codes "after") ≡ false
    → bytes_eq name (codes "at") ≡ false
    → bytes_eq name (codes "checkpoint") ≡ false
    → bytes_eq name (codes "config") ≡ false
    → bytes_eq name (codes "doc") ≡ false
    → bytes_eq name (codes "docs") ≡ false
    → bytes_eq name (codes "force") ≡ false
    → bytes_eq name (codes "id") ≡ false
    → bytes_eq name (codes "index") ≡ false
    → bytes_eq name (codes "lane") ≡ false
    → bytes_eq name (codes "mappings") ≡ false
    → bytes_eq name (codes "shards") ≡ false
    → bytes_eq name (codes "size") ≡ false
    → bytes_eq name (codes "stamp") ≡ false
    → bytes_eq name (codes "wait_for_checkpoint") ≡ false
    → put_in name t m ≡ m
unplaced name t m e0 e1 e2 e3 e4 e5 e6 e7 e8 e9 e10 e11 e12 e13 e14 =
    skip _ _ _ _ e0 (skip _ _ _ _ e1 (skip _ _ _ _ e2 (skip _ _ _ _ e3 (skip _ _ _ _ e4 (skip _ _ _ _ e5 (skip _ _ _ _ e6 (skip _ _ _ _ e7 (skip _ _ _ _ e8 (skip _ _ _ _ e9 (skip _ _ _ _ e10 (skip _ _ _ _ e11 (skip _ _ _ _ e12 (skip _ _ _ _ e13 (skip _ _ _ _ e14 (refl)))))))))))))))

unread : (name : List ℕ) (t : Tree) (ms : List (List ℕ × Tree))
    → bytes_eq name (codes "after") ≡ false
    → bytes_eq name (codes "at") ≡ false
    → bytes_eq name (codes "checkpoint") ≡ false
    → bytes_eq name (codes "config") ≡ false
    → bytes_eq name (codes "doc") ≡ false
    → bytes_eq name (codes "docs") ≡ false
    → bytes_eq name (codes "force") ≡ false
    → bytes_eq name (codes "id") ≡ false
    → bytes_eq name (codes "index") ≡ false
    → bytes_eq name (codes "lane") ≡ false
    → bytes_eq name (codes "mappings") ≡ false
    → bytes_eq name (codes "shards") ≡ false
    → bytes_eq name (codes "size") ≡ false
    → bytes_eq name (codes "stamp") ≡ false
    → bytes_eq name (codes "wait_for_checkpoint") ≡ false
    → members_of ((name, t) ∷ ms) ≡ members_of ms
unread name t ms e0 e1 e2 e3 e4 e5 e6 e7 e8 e9 e10 e11 e12 e13 e14 = λ i. record {
  after = (other array_in name (codes "after") t ms e0) i;
  at_ms = (other moment_in name (codes "at") t ms e1) i;
  checkpoint = unwrap_or ((other checkpoint_in name (codes "checkpoint") t ms e2) i) 0;
  config = unwrap_or ((other object_in name (codes "config") t ms e3) i) tree.Null;
  doc = unwrap_or ((other object_in name (codes "doc") t ms e4) i) tree.Null;
  docs = unwrap_or ((other documents_in name (codes "docs") t ms e5) i) [];
  force = unwrap_or ((other truth_in name (codes "force") t ms e6) i) false;
  id = unwrap_or ((other text_in name (codes "id") t ms e7) i) [];
  index = unwrap_or ((other text_in name (codes "index") t ms e8) i) [];
  lane = unwrap_or ((other lane_in name (codes "lane") t ms e9) i) 0;
  mappings = unwrap_or ((other object_in name (codes "mappings") t ms e10) i) tree.Null;
  shards = unwrap_or ((other number_in name (codes "shards") t ms e11) i) (pos 1);
  size = unwrap_or ((other size_in name (codes "size") t ms e12) i) 10;
  stamp = (other text_in name (codes "stamp") t ms e13) i;
  wait = unwrap_or ((other truth_in name (codes "wait_for_checkpoint") t ms e14) i) false;
}

pub put_one : (name : List ℕ) (t : Tree) (ms : List (List ℕ × Tree)) → Goes name t ms
put_one name t ms =
    by_either (bytes_eq name (codes "after")) (named name (codes "after") t ms refl) (λ e0.
    by_either (bytes_eq name (codes "at")) (named name (codes "at") t ms refl) (λ e1.
    by_either (bytes_eq name (codes "checkpoint")) (named name (codes "checkpoint") t ms refl) (λ e2.
    by_either (bytes_eq name (codes "config")) (named name (codes "config") t ms refl) (λ e3.
    by_either (bytes_eq name (codes "doc")) (named name (codes "doc") t ms refl) (λ e4.
    by_either (bytes_eq name (codes "docs")) (named name (codes "docs") t ms refl) (λ e5.
    by_either (bytes_eq name (codes "force")) (named name (codes "force") t ms refl) (λ e6.
    by_either (bytes_eq name (codes "id")) (named name (codes "id") t ms refl) (λ e7.
    by_either (bytes_eq name (codes "index")) (named name (codes "index") t ms refl) (λ e8.
    by_either (bytes_eq name (codes "lane")) (named name (codes "lane") t ms refl) (λ e9.
    by_either (bytes_eq name (codes "mappings")) (named name (codes "mappings") t ms refl) (λ e10.
    by_either (bytes_eq name (codes "shards")) (named name (codes "shards") t ms refl) (λ e11.
    by_either (bytes_eq name (codes "size")) (named name (codes "size") t ms refl) (λ e12.
    by_either (bytes_eq name (codes "stamp")) (named name (codes "stamp") t ms refl) (λ e13.
    by_either (bytes_eq name (codes "wait_for_checkpoint")) (named name (codes "wait_for_checkpoint") t ms refl) (λ e14.
    unplaced name t (members_of ms) e0 e1 e2 e3 e4 e5 e6 e7 e8 e9 e10 e11 e12 e13 e14 ∙ sym (unread name t ms e0 e1 e2 e3 e4 e5 e6 e7 e8 e9 e10 e11 e12 e13 e14))))))))))))))))

pub put_whole : (ms : List (List ℕ × Tree)) → put_all ms nothing_said ≡ members_of ms
put_whole [] = refl
put_whole (m ∷ ms) = ap (put_in m.0 m.1) (put_whole ms) ∙ put_one m.0 m.1 ms

-- the last of what is left goes before what was said
pub put_step : (before rest : List (List ℕ × Tree)) (name seen : List ℕ) (t : Tree) (said more whole : Members)
    → before ≡ rest ++ (name, t) ∷ [] → seen ≡ name → more ≡ put_in seen t said → put_all before said ≡ whole → put_all rest more ≡ whole
put_step before rest name seen t said more whole split same put so_far =
    ap (put_all rest) put ∙ (ap (λ n. put_all rest (put_in n t said)) same ∙ (sym (put_last rest (name, t) said) ∙ (ap (λ ms. put_all ms said) (sym split) ∙ so_far)))
