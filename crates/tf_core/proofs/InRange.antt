-- The configurations of transforms that were put are in range, and so is the interval to which their bounds are aligned.
use Rattle.std.proofs.Common.{◌≡◌, ℕ, ℤ, pos, ◌<ℤ◌, ◌≤ℤ◌, Bool, true, false, cond, not, List, [], ◌∷◌, Option, Some, None, arith, refl, subst, ◌∙◌}
use Rattle.std.specs.Prelude.{IfSome, option_and_then}
use Rattle.std.specs.List.{AllByRecursion, find}
use Rattle.std.specs.Str.{bytes_eq}
use Rattle.std.proofs.lemmas.Int.{ints}
use Rattle.std.proofs.lemmas.List.Elements.{recursion_from_All}
use Rattle.std.proofs.lemmas.Option.{same_Some}
use Rattle.tf_model.specs.declared.config.Config.{Config}
use Rattle.tf_model.specs.declared.config.Group.{Group}
use Rattle.tf_model.specs.declared.config.GroupKind.{GroupKind}
use Rattle.tf_model.specs.declared.config.GroupKind.TheVariants.{Terms, Histogram, DateHistogram}
use Rattle.tf_model.specs.declared.config.SyncTime.{SyncTime}
use Rattle.tf_model.specs.declared.entry.Entry.{Entry}
use Rattle.tf_model.specs.declared.entry.Kind.{Kind}
use Rattle.tf_model.specs.declared.entry.Kind.TheVariants as kind
use Rattle.tf_model.specs.Bounds.{step_of, step_or, step_for, first_step, align_step}
use Rattle.tf_model.specs.Conditions.{IsGroupInRange, IsInRange, IsSpan}
use Rattle.tf_model.specs.Keys.{groups_of}
use Rattle.tf_config.proofs.ClearLaws.{passing_is_in_range}
use Rattle.tf_history.specs.Catalogue.{catalogue}
use Rattle.tf_history.specs.LegalEntries.{FitsKind, IsLegalPast}
use Rattle.tf_history.specs.Lives.{is_same}
use Rattle.tf_history.specs.Transforms.{PutTransform, transforms, transforms_after, transform_of}
use Rattle.tf_core.specs.Legal.{reading}
use Rattle.tf_core.specs.Sources.{catalogued}
use Rattle.tf_core.proofs.Tables.{all_filter}

-- ---- transforms that were put
abbrev IsPutInRange : PutTransform → Type 0
IsPutInRange p = IsInRange p.config

abbrev After : List Entry → Kind → Type 0
After past k = AllByRecursion IsPutInRange (transforms_after (catalogue past) k (transforms past))

after_kind : (past : List Entry) (moment : ℤ) (k : Kind) → FitsKind reading past moment k → AllByRecursion IsPutInRange (transforms past) → After past k
unfolding reading
after_kind past moment (kind.Put id config) fits before = (passing_is_in_range (catalogued (catalogue past)) config fits.checked, before)
after_kind past moment (kind.Delete id) fits before = all_filter IsPutInRange (λ (p : PutTransform). not (is_same id p.id)) (transforms past) before
after_kind past moment (kind.Index name shards mapping stamp quick) fits before = before
after_kind past moment (kind.Write index shard seq id tree) fits before = before
after_kind past moment (kind.Reset id) fits before = before
after_kind past moment (kind.Start id) fits before = before
after_kind past moment (kind.StopAsked id wait) fits before = before
after_kind past moment (kind.Stopped id) fits before = before
after_kind past moment (kind.Schedule id) fits before = before
after_kind past moment (kind.Begin id n bound) fits before = before
after_kind past moment (kind.Page id n rows) fits before = before
after_kind past moment (kind.Finish id n) fits before = before
after_kind past moment (kind.Fail id n key name value) fits before = before

all_in_range : (past : List Entry) → IsLegalPast reading past → AllByRecursion IsPutInRange (transforms past)
all_in_range [] legal = tt
all_in_range (e ∷ past) legal = after_kind past e.at_ms e.kind legal.1.fits (all_in_range past legal.0)

-- what is known of all is known of the one that is found
one_found : {X : Type 0} (P : X → Type 0) (p : X → Bool) (xs : List X) (x : X) → AllByRecursion P xs → find p xs ≡ Some x → P x
one_found P p [] x all e = absurd (let z : ◌≡◌ {A = Option _} None (Some x) = e in cc)
one_found P p (y ∷ xs) x all e = by (p y) (one_found P p xs x all.1) e
  where
    by : (b : Bool) → (find p xs ≡ Some x → P x) → cond b (Some y) (find p xs) ≡ Some x → P x
    by true rest f = subst P (same_Some y x f) all.0
    by false rest f = rest f

pub found_in_range : (past : List Entry) (t : List ℕ) (p : PutTransform) → IsLegalPast reading past → transform_of t past ≡ Some p → IsInRange p.config
found_in_range past t p legal put = one_found IsPutInRange (λ (q : PutTransform). is_same t q.id) (transforms past) p (all_in_range past legal) put

-- ---- delays and intervals
pub delay_in_range : (c : Config) (sync : SyncTime) → IsInRange c → c.sync ≡ Some sync → pos 0 ≤ℤ sync.delay_ms
delay_in_range c sync range is = (subst (λ (o : Option SyncTime). IfSome o (λ s. IsSpan s.delay_ms)) is range.delay).0

above_zero : (n : ℤ) → pos 1 ≤ℤ n → pos 0 <ℤ n
above_zero n e = grind (arith, ints)

kind_step : (k : GroupKind) (step : ℤ) → IsGroupInRange k → step_of k ≡ Some step → pos 0 <ℤ step
kind_step Terms step range e = absurd (let z : ◌≡◌ {A = Option ℤ} None (Some step) = e in cc)
kind_step (Histogram interval) step range e = absurd (let z : ◌≡◌ {A = Option ℤ} None (Some step) = e in cc)
kind_step (DateHistogram ms) step range e = subst (λ n. pos 0 <ℤ n) (same_Some ms step e) (above_zero ms range.0)

group_step : (field : List ℕ) (group : Group) (step : ℤ) → IsGroupInRange group.kind → step_for field group ≡ Some step → pos 0 <ℤ step
group_step field group step range e = by (bytes_eq group.field field) e
  where
    by : (b : Bool) → cond b (step_of group.kind) None ≡ Some step → pos 0 <ℤ step
    by true f = kind_step group.kind step range f
    by false f = absurd (let z : ◌≡◌ {A = Option ℤ} None (Some step) = f in cc)

abbrev AreGroupsInRange : List Group → Type 0
AreGroupsInRange groups = AllByRecursion (λ (g : Group). IsGroupInRange g.kind) groups

first_group_step : (field : List ℕ) (groups : List Group) (step : ℤ) → AreGroupsInRange groups → first_step field groups ≡ Some step → pos 0 <ℤ step
first_group_step field [] step all e = absurd (let z : ◌≡◌ {A = Option ℤ} None (Some step) = e in cc)
first_group_step field (g ∷ groups) step all e = by (step_for field g) refl (first_group_step field groups step all.1) e
  where
    by : (o : Option ℤ) → step_for field g ≡ o → (first_step field groups ≡ Some step → pos 0 <ℤ step) → step_or o (first_step field groups) ≡ Some step → pos 0 <ℤ step
    by None is rest f = rest f
    by (Some s) is rest f = group_step field g step all.0 (is ∙ f)

pub step_in_range : (c : Config) (step : ℤ) → IsInRange c → align_step c ≡ Some step → pos 0 <ℤ step
step_in_range c step range e = by c.align c.sync e
  where
    by : (align : Bool) (o : Option SyncTime) → cond align (option_and_then (λ (s : SyncTime). first_step s.field (groups_of c.shape)) o) None ≡ Some step → pos 0 <ℤ step
    by true (Some sync) f = first_group_step sync.field (groups_of c.shape) step (recursion_from_All (λ (g : Group). IsGroupInRange g.kind) (groups_of c.shape) range.groups) f
    by true None f = absurd (let z : ◌≡◌ {A = Option ℤ} None (Some step) = f in cc)
    by false o f = absurd (let z : ◌≡◌ {A = Option ℤ} None (Some step) = f in cc)
