-- A configured transform whose bounds are aligned to an interval of its keys.
use Rattle.std.proofs.Common.{◌≡◌, ℕ, ℤ, pos, ◌-ℤ◌, ◌<ℤ◌, ◌≤ℤ◌, Bool, true, false, cond, List, [], ◌∷◌, Option, Some, None, arith, refl, sym, ap, ◌∙◌, subst}
use Rattle.std.specs.Prelude.{option_map, option_and_then, is_none, if◌then◌else◌}
use Rattle.std.specs.Int.{int_max}
use Rattle.std.specs.Ordering.{eq_by_cmp}
use Rattle.std.specs.Str.{bytes_eq}
use Rattle.std.proofs.lemmas.Int.{ints}
use Rattle.std.proofs.lemmas.Option.{same_Some}
use Rattle.std.proofs.lemmas.Slice.Eq.{bytes_eq-Decides}
use Rattle.tf_model.specs.declared.doc.Doc.{Doc}
use Rattle.tf_model.specs.declared.value.Value.{Value}
use Rattle.tf_model.specs.declared.value.Value.TheVariants as value
use Rattle.tf_model.specs.declared.value.Key.{Key}
use Rattle.tf_model.specs.declared.config.Config.{Config}
use Rattle.tf_model.specs.declared.config.SyncTime.{SyncTime}
use Rattle.tf_model.specs.declared.config.Shape.{Shape}
use Rattle.tf_model.specs.declared.config.Shape.TheVariants as shape
use Rattle.tf_model.specs.declared.config.Group.{Group}
use Rattle.tf_model.specs.declared.config.GroupKind.{GroupKind}
use Rattle.tf_model.specs.declared.config.GroupKind.TheVariants as group_kind
use Rattle.tf_model.specs.Values.{value_of}
use Rattle.tf_model.specs.Keys.{floor_to, least_date, grouped, part_from, part_of, parts_of, key_from, key_by, key_of, keys_of, listed, is_among, groups_of}
use Rattle.tf_model.specs.Bounds.{step_of, step_or, step_for, first_step, align_step, floored, aligned}
use Rattle.tf_model.specs.Retention.{date_of}
use Rattle.tf_model.specs.Order.{key_cmp}
use Rattle.tf_model.proofs.OrderLaws.{key_ties}
use Rattle.tf_history.specs.Meaning.{Meaning}
use Rattle.tf_history.specs.Configured.{meaning, aligned_by}
use Rattle.tf_history.specs.Transforms.{meaning_of}
use Rattle.tf_history.specs.Laws.{IsAligned}
use Rattle.tf_history.specs.ConfiguredLaws.{is_not_early, AlignedKeysAppearOnce}
use Rattle.tf_history.proofs.Lists.{or_false}
use Rattle.tf_history.proofs.Numbers.{max_at_most, at_most_from, floor_below, floor_least}
use Rattle.tf_history.proofs.AlignedLaw.{aligned_is_apart}
use Rattle.tf_history.proofs.EntriesLaw.{same_meaning}

-- a moment, 0 for another value
abbrev moment_in : Option ℤ → ℤ
moment_in None = pos 0
moment_in (Some ms) = ms

abbrev part_or : Option ℤ → ℤ → ℤ → ℤ
part_or None here rest = rest
part_or (Some step) here rest = here

-- the part of a key at the first group by dates of a field
abbrev part_at : List ℕ → List Group → List Value → ℤ
part_at field [] parts = pos 0
part_at field (group ∷ groups) [] = pos 0
part_at field (group ∷ groups) (v ∷ parts) = part_or (step_for field group) (moment_in (date_of v)) (part_at field groups parts)

-- the low end of the interval that a moment lies in
abbrev low_end : ℤ → ℤ → ℤ
low_end step v = int_max least_date (floor_to v step)

date_there : (v : ℤ) (o : Option Value) → option_and_then date_of o ≡ Some v → o ≡ Some (value.Date v)
date_there v None e = absurd (let z : ◌≡◌ {A = Option ℤ} None (Some v) = e in cc)
date_there v (Some value.Null) e = absurd (let z : ◌≡◌ {A = Option ℤ} None (Some v) = e in cc)
date_there v (Some (value.Bool b)) e = absurd (let z : ◌≡◌ {A = Option ℤ} None (Some v) = e in cc)
date_there v (Some (value.Int n)) e = absurd (let z : ◌≡◌ {A = Option ℤ} None (Some v) = e in cc)
date_there v (Some (value.Date ms)) e = ap (λ m. Some (value.Date m)) (same_Some ms v e)
date_there v (Some (value.Str text)) e = absurd (let z : ◌≡◌ {A = Option ℤ} None (Some v) = e in cc)

-- a group by dates of the field makes the low end of a moment
step_there : (kind : GroupKind) (step v : ℤ) → step_of kind ≡ Some step → grouped kind (value.Date v) ≡ value.Date (low_end step v)
step_there group_kind.Terms step v e = absurd (let z : ◌≡◌ {A = Option ℤ} None (Some step) = e in cc)
step_there (group_kind.Histogram interval) step v e = absurd (let z : ◌≡◌ {A = Option ℤ} None (Some step) = e in cc)
step_there (group_kind.DateHistogram ms) step v e = ap (λ s. value.Date (low_end s v)) (same_Some ms step e)

first_part : (d : Doc) (group : Group) (field : List ℕ) (step v : ℤ) → value_of d field ≡ Some (value.Date v) → step_for field group ≡ Some step
    → part_of d group ≡ Some (value.Date (low_end step v))
first_part d group field step v found e =
    elim (bytes_eq group.field field) as (λ b. bytes_eq group.field field ≡ b → cond b (step_of group.kind) None ≡ Some step → part_of d group ≡ Some (value.Date (low_end step v))) [
      | true ↦ λ s f. ap (part_from group) (ap (value_of d) ((bytes_eq-Decides group.field field).0 s) ∙ found) ∙ ap Some (step_there group.kind step v f)
      | false ↦ λ s f. absurd (let z : ◌≡◌ {A = Option ℤ} None (Some step) = f in cc)
    ] refl e

-- parts that are there are those of the first group and of the others
parts_there : (o : Option Value) (rest : Option (List Value)) (parts : List Value)
    → option_and_then (λ part. option_map (λ more. part ∷ more) rest) o ≡ Some parts
    → (v : Value) × ((more : List Value) × ((o ≡ Some v) × ((rest ≡ Some more) × (v ∷ more ≡ parts))))
parts_there None rest parts e = absurd (let z : ◌≡◌ {A = Option (List Value)} None (Some parts) = e in cc)
parts_there (Some v) None parts e = absurd (let z : ◌≡◌ {A = Option (List Value)} None (Some parts) = e in cc)
parts_there (Some v) (Some more) parts e = (v, (more, (refl, (refl, same_Some (v ∷ more) parts e))))

part_is : (d : Doc) (field : List ℕ) (step v : ℤ) (groups : List Group) (parts : List Value) → value_of d field ≡ Some (value.Date v)
    → first_step field groups ≡ Some step → parts_of d groups ≡ Some parts
    → low_end step v ≡ part_at field groups parts
part_is d field step v [] parts found e p = absurd (let z : ◌≡◌ {A = Option ℤ} None (Some step) = e in cc)
part_is d field step v (group ∷ groups) parts found e p =
    let both = parts_there (part_of d group) (parts_of d groups) parts p in
    subst (λ ps. low_end step v ≡ part_at field (group ∷ groups) ps) both.1.1.1.1
    (by both.0 both.1.0 both.1.1.0 (λ f. part_is d field step v groups both.1.0 found f both.1.1.1.0) (step_for field group) refl e)
  where
    by : (w : Value) (more : List Value) → part_of d group ≡ Some w → (first_step field groups ≡ Some step → low_end step v ≡ part_at field groups more)
        → (o : Option ℤ) → step_for field group ≡ o → step_or o (first_step field groups) ≡ Some step → low_end step v ≡ part_or o (moment_in (date_of w)) (part_at field groups more)
    by w more is rest None s f = rest f
    by w more is rest (Some here) s f =
        let same : Some (value.Date (low_end step v)) ≡ Some w = sym (first_part d group field step v found (s ∙ f)) ∙ is in
        ap (λ o. moment_in (option_and_then date_of o)) same

key_there : (o : Option Key) (k : Key) → is_among (listed o) k ≡ true → o ≡ Some k
key_there None k e = absurd (let z : false ≡ true = e in cc)
key_there (Some j) k e = ap Some (sym ((key_ties k j).0 (sym (or_false (eq_by_cmp key_cmp k j)) ∙ e)))

key_parts : (o : Option (List Value)) (k : Key) → option_map key_from o ≡ Some k → o ≡ Some k.parts
key_parts None k e = absurd (let z : ◌≡◌ {A = Option Key} None (Some k) = e in cc)
key_parts (Some parts) k e = ap (λ (j : Key). Some j.parts) (same_Some (key_from parts) k e)

-- the part of a key in the interval of the sync field
abbrev part_by : Option SyncTime → Shape → Key → ℤ
part_by None s k = pos 0
part_by (Some sync) s k = part_at sync.field (groups_of s) k.parts

abbrev step_by : Bool → Option SyncTime → Shape → Option ℤ
step_by align o s = if align then option_and_then (λ (sync : SyncTime). first_step sync.field (groups_of s)) o else None

of_key_by : (align : Bool) (o : Option SyncTime) (s : Shape) (step v : ℤ) (k : Key) (d : Doc) → step_by align o s ≡ Some step
    → is_among (listed (key_by s d)) k ≡ true
    → option_and_then date_of (option_and_then (λ (sync : SyncTime). value_of d sync.field) o) ≡ Some v → low_end step v ≡ part_by o s k
of_key_by false o s step v k d e has_it found = absurd (let z : ◌≡◌ {A = Option ℤ} None (Some step) = e in cc)
of_key_by true None s step v k d e has_it found = absurd (let z : ◌≡◌ {A = Option ℤ} None (Some step) = e in cc)
of_key_by true (Some sync) (shape.Latest unique_key sort) step v k d e has_it found = absurd (let z : ◌≡◌ {A = Option ℤ} None (Some step) = e in cc)
of_key_by true (Some sync) (shape.Pivot groups aggs) step v k d e has_it found =
    part_is d sync.field step v groups k.parts (date_there v (value_of d sync.field) found) e (key_parts (parts_of d groups) k (key_there (option_map key_from (parts_of d groups)) k has_it))

-- a transform with an interval has a sync field
no_step : (align : Bool) (s : Shape) (step : ℤ) → step_by align None s ≡ Some step → ⊥
no_step true s step e = let z : ◌≡◌ {A = Option ℤ} None (Some step) = e in cc
no_step false s step e = let z : ◌≡◌ {A = Option ℤ} None (Some step) = e in cc

at_most_max : (x y z : ℤ) → x ≤ℤ z → x ≤ℤ int_max y z
at_most_max x y z e = grind (arith, ints)

continuous : (align : Bool) (o : Option SyncTime) (s : Shape) (step : ℤ) → step_by align o s ≡ Some step → is_none o ≡ false
continuous align None s step e = absurd (no_step align s step e)
continuous align (Some sync) s step e = refl

bounds_by : (c : Config) (step moment v : ℤ) → align_step c ≡ Some step → pos 0 <ℤ step → (o : Option SyncTime) → c.sync ≡ o
    → aligned_by c o moment ≤ℤ v → aligned_by c o moment ≤ℤ low_end step v
unfolding aligned
bounds_by c step moment v e some None is below = absurd (no_step c.align c.shape step (ap (λ o. step_by c.align o c.shape) (sym is) ∙ e))
bounds_by c step moment v e some (Some sync) is below =
    let here : floored (align_step c) (moment -ℤ sync.delay_ms) ≡ floor_to (moment -ℤ sync.delay_ms) step = ap (λ o. floored o (moment -ℤ sync.delay_ms)) e in
    subst (λ x. x ≤ℤ low_end step v) (sym here)
    (at_most_max (floor_to (moment -ℤ sync.delay_ms) step) least_date (floor_to v step) (floor_least (moment -ℤ sync.delay_ms) v step some (subst (λ x. x ≤ℤ v) here below)))

abbrev fits : Meaning → Doc → Bool
fits m d = is_not_early (m.sync d)

configured_is_aligned : (sources : List ℕ) (c : Config) (step : ℤ) → align_step c ≡ Some step → pos 0 <ℤ step
    → IsAligned (meaning sources c) (fits (meaning sources c)) (part_by c.sync c.shape) (low_end step)
unfolding keys_of key_of
configured_is_aligned sources c step e some = record {
  of_key = λ k d fit has_it v found. of_key_by c.align c.sync c.shape step v k d e has_it found;
  below = λ d fit v found. max_at_most least_date (floor_to v step) v (at_most_from v least_date (ap is_not_early (sym found) ∙ fit)) (floor_below v step);
  bounds = λ moment v below. bounds_by c step moment v e some c.sync refl below;
}

pub aligned_keys_appear_once : AlignedKeysAppearOnce
aligned_keys_appear_once values_of past t p l step legal put is e some fit =
    let same : meaning_of p ≡ l.meaning = same_meaning values_of past t p l put is in
    aligned_is_apart _ t l (fits l.meaning) (part_by p.config.sync p.config.shape) (low_end step) legal is
    (ap (λ (m : Meaning). m.is_batch) (sym same) ∙ continuous p.config.align p.config.sync p.config.shape step e)
    (ap (λ (m : Meaning). m.includes_late) (sym same))
    fit
    (subst (λ m. IsAligned m (fits m) (part_by p.config.sync p.config.shape) (low_end step)) same (configured_is_aligned p.sources p.config step e some))
