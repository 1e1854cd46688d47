-- A configured transform whose sources are stamped.
use Rattle.std.proofs.Common.{◌≡◌, ℕ, zero, suc, ℤ, pos, ◌-ℤ◌, ◌≤ℤ◌, Bool, true, false, ◌||◌, List, [], ◌∷◌, ◌++◌, Option, Some, None, arith, refl, sym, ap, ◌∙◌, subst, append_assoc}
use Rattle.std.specs.Prelude.{IsSomeAnd, option_and_then, nat_eq, slice_get}
use Rattle.std.specs.List.{list_any, list_all}
use Rattle.std.proofs.lemmas.Int.{ints}
use Rattle.std.proofs.lemmas.List.{append-nil}
use Rattle.std.proofs.lemmas.Slice.Eq.{bytes_eq-Decides}
use Rattle.tf_model.specs.declared.doc.Doc.{Doc}
use Rattle.tf_model.specs.declared.tree.Tree.{Tree}
use Rattle.tf_model.specs.declared.value.Value.TheVariants as value
use Rattle.tf_model.specs.declared.config.Config.{Config}
use Rattle.tf_model.specs.declared.config.SyncTime.{SyncTime}
use Rattle.tf_model.specs.declared.entry.Entry.{Entry}
use Rattle.tf_model.specs.declared.entry.Kind.{Kind}
use Rattle.tf_model.specs.declared.entry.Kind.TheVariants as kind
use Rattle.tf_model.specs.Values.{value_of, value_at}
use Rattle.tf_model.specs.Retention.{date_of}
use Rattle.tf_model.specs.Bounds.{align_step, floored, aligned}
use Rattle.tf_history.specs.Meaning.{Meaning}
use Rattle.tf_history.specs.Events.{Deed}
use Rattle.tf_history.specs.Events.Deed.{Index, Write, Delete, Reset, Start, StopAsked, Stopped, Schedule, Fail, Begin, Page, Finish}
use Rattle.tf_history.specs.Configured.{meaning, aligned_by}
use Rattle.tf_history.specs.Catalogue.{SourceIndex, catalogue, makes, values_in, written_doc}
use Rattle.tf_history.specs.Transforms.{meaning_of}
use Rattle.tf_history.specs.Lives.{documents}
use Rattle.tf_history.specs.Laws.{IsStamped}
use Rattle.tf_history.specs.Reading.{deed_of, events}
use Rattle.tf_history.specs.LegalEntries.{Reading, MayWrite, FitsKind, IsLegalPast}
use Rattle.tf_history.specs.ConfiguredLaws.{is_stamp, has_stamp, ReadsStamps, StampedSourcesAreNeverLate}
use Rattle.tf_history.proofs.Lists.{and_first, and_second}
use Rattle.tf_history.proofs.Numbers.{floor_below}
use Rattle.tf_history.proofs.StampsLaw.{stamped_is_never_late}
use Rattle.tf_history.proofs.EntriesLaw.{legal_entries_are_legal, same_meaning}

-- ---- bounds are not above their moment
floored_below : (o : Option ℤ) (n : ℤ) → floored o n ≤ℤ n
floored_below None n = grind (arith, ints)
floored_below (Some step) n = floor_below n step

earlier : (x y delay : ℤ) → y ≤ℤ (x -ℤ delay) → pos 0 ≤ℤ delay → y ≤ℤ x
earlier x y delay e f = grind (arith, ints)

aligned_below : (c : Config) (sync : SyncTime) (moment : ℤ) → c.sync ≡ Some sync → pos 0 ≤ℤ sync.delay_ms → aligned_by c c.sync moment ≤ℤ moment
unfolding aligned
aligned_below c sync moment is e =
    subst (λ o. aligned_by c o moment ≤ℤ moment) (sym is) (earlier moment (floored (align_step c) (moment -ℤ sync.delay_ms)) sync.delay_ms (floored_below (align_step c) (moment -ℤ sync.delay_ms)) e)

-- ---- stamps
still_there : {X : Type 0} (xs ys : List X) (i : ℕ) (x : X) → slice_get xs i ≡ Some x → slice_get (xs ++ ys) i ≡ Some x
still_there [] ys i x e = absurd (let z : ◌≡◌ {A = Option _} None (Some x) = e in cc)
still_there (y ∷ xs) ys zero x e = e
still_there (y ∷ xs) ys (suc i) x e = still_there xs ys i x e

same_number : (i j : ℕ) → nat_eq i j ≡ true → i ≡ j
same_number i j e = grind (arith, ints)

one_of_all : (p : ℕ → Bool) (i : ℕ) (xs : List ℕ) → list_any (nat_eq i) xs ≡ true → list_all p xs ≡ true → p i ≡ true
one_of_all p i [] e f = absurd (let z : false ≡ true = e in cc)
one_of_all p i (x ∷ xs) e f =
    elim (nat_eq i x) as (λ b. nat_eq i x ≡ b → (b || list_any (nat_eq i) xs) ≡ true → p i ≡ true) [
      | true ↦ λ s g. ap p (same_number i x s) ∙ and_first (p x) (list_all p xs) f
      | false ↦ λ s g. one_of_all p i xs g (and_second (p x) (list_all p xs) f)
    ] refl e

stamp_is : (field : List ℕ) (o : Option (List ℕ)) → is_stamp field o ≡ true → o ≡ Some field
stamp_is field None e = absurd (let z : false ≡ true = e in cc)
stamp_is field (Some stamp) e = ap Some ((bytes_eq-Decides stamp field).0 e)

module _ (reading : Reading) (stamps : ReadsStamps reading) (sources : List ℕ) (c : Config) (sync : SyncTime) (is : c.sync ≡ Some sync)
    (whole : List SourceIndex) (all : list_all (λ index. has_stamp sync.field (slice_get whole index)) sources ≡ true) where
  -- a document that a source takes has the moment as sync value
  stamped_write : (indices rest : List SourceIndex) (docs : List Doc) (moment : ℤ) (index shard seq : ℕ) (id : List ℕ) (tree : Tree) → indices ++ rest ≡ whole
      → IsSomeAnd (slice_get indices index) (λ s. MayWrite reading docs moment s index shard seq id tree) → list_any (nat_eq index) sources ≡ true
      → (meaning sources c).sync (written_doc reading.values_of indices index shard seq id tree) ≡ Some moment
  unfolding value_of
  stamped_write indices rest docs moment index shard seq id tree front may source = by (slice_get indices index) refl may
    where
      by : (o : Option SourceIndex) → slice_get indices index ≡ o → IsSomeAnd o (λ s. MayWrite reading docs moment s index shard seq id tree)
          → (meaning sources c).sync (written_doc reading.values_of indices index shard seq id tree) ≡ Some moment
      by None e m = absurd m
      by (Some s) e m =
          let there : slice_get whole index ≡ Some s = ap (λ xs. slice_get xs index) (sym front) ∙ still_there indices rest index s e in
          let stamped : has_stamp sync.field (slice_get whole index) ≡ true = one_of_all (λ i. has_stamp sync.field (slice_get whole i)) index sources source all in
          let stamp : s.stamp ≡ Some sync.field = stamp_is sync.field s.stamp (ap (has_stamp sync.field) (sym there) ∙ stamped) in
          let found : value_at (values_in reading.values_of (slice_get indices index) tree) sync.field ≡ Some (value.Date moment) =
          ap (λ o. value_at (values_in reading.values_of o tree) sync.field) e ∙ stamps s moment tree sync.field m.read stamp in
          ap (λ o. option_and_then date_of (option_and_then (λ (y : SyncTime). value_of (written_doc reading.values_of indices index shard seq id tree) y.field) o)) is ∙ ap (option_and_then date_of) found

  stamped_kind : (past : List Entry) (rest : List SourceIndex) (moment : ℤ) (k : Kind) → catalogue past ++ rest ≡ whole → FitsKind reading past moment k
      → (d : Doc) → deed_of reading.values_of (catalogue past) k ≡ Write d → list_any (nat_eq d.index) sources ≡ true → (meaning sources c).sync d ≡ Some moment
  stamped_kind past rest moment (kind.Index name shards mapping stamp quick) front fits d e source = absurd (let z : ◌≡◌ {A = Deed} Index (Write d) = e in cc)
  stamped_kind past rest moment (kind.Write index shard seq id tree) front fits d e source =
      let f : ◌≡◌ {A = Deed} (Write (written_doc reading.values_of (catalogue past) index shard seq id tree)) (Write d) = e in
      let same : written_doc reading.values_of (catalogue past) index shard seq id tree ≡ d = cc in
      subst (λ x. (meaning sources c).sync x ≡ Some moment) same
      (stamped_write (catalogue past) rest (documents (events reading.values_of past)) moment index shard seq id tree front fits (ap (λ (x : Doc). list_any (nat_eq x.index) sources) same ∙ source))
  stamped_kind past rest moment (kind.Put id config) front fits d e source = absurd (let z : ◌≡◌ {A = Deed} (deed_of reading.values_of (catalogue past) (kind.Put id config)) (Write d) = e in cc)
  stamped_kind past rest moment (kind.Delete id) front fits d e source = absurd (let z : ◌≡◌ {A = Deed} (Delete id) (Write d) = e in cc)
  stamped_kind past rest moment (kind.Reset id) front fits d e source = absurd (let z : ◌≡◌ {A = Deed} (Reset id) (Write d) = e in cc)
  stamped_kind past rest moment (kind.Start id) front fits d e source = absurd (let z : ◌≡◌ {A = Deed} (Start id) (Write d) = e in cc)
  stamped_kind past rest moment (kind.StopAsked id wait) front fits d e source = absurd (let z : ◌≡◌ {A = Deed} (StopAsked id wait) (Write d) = e in cc)
  stamped_kind past rest moment (kind.Stopped id) front fits d e source = absurd (let z : ◌≡◌ {A = Deed} (Stopped id) (Write d) = e in cc)
  stamped_kind past rest moment (kind.Schedule id) front fits d e source = absurd (let z : ◌≡◌ {A = Deed} (Schedule id) (Write d) = e in cc)
  stamped_kind past rest moment (kind.Fail id n key name v) front fits d e source = absurd (let z : ◌≡◌ {A = Deed} (Fail id n key name v) (Write d) = e in cc)
  stamped_kind past rest moment (kind.Begin id n bound) front fits d e source = absurd (let z : ◌≡◌ {A = Deed} (Begin id n bound) (Write d) = e in cc)
  stamped_kind past rest moment (kind.Page id n rows) front fits d e source = absurd (let z : ◌≡◌ {A = Deed} (Page id n rows) (Write d) = e in cc)
  stamped_kind past rest moment (kind.Finish id n) front fits d e source = absurd (let z : ◌≡◌ {A = Deed} (Finish id n) (Write d) = e in cc)

  all_stamped : (past : List Entry) (rest : List SourceIndex) → catalogue past ++ rest ≡ whole → IsLegalPast reading past
      → IsStamped (meaning sources c) (events reading.values_of past)
  all_stamped [] rest front legal = tt
  all_stamped (e ∷ past) rest front legal =
      let before : catalogue past ++ (makes e.kind ++ rest) ≡ whole = sym (append_assoc (catalogue past) (makes e.kind) rest) ∙ front in
      (all_stamped past (makes e.kind ++ rest) before legal.0, λ d f source. stamped_kind past (makes e.kind ++ rest) e.at_ms e.kind before legal.1.fits d f source)

pub stamped_sources_are_never_late : StampedSourcesAreNeverLate
stamped_sources_are_never_late reading past t p l sync stamps legal put life_is is delay all =
    let same : meaning_of p ≡ l.meaning = same_meaning reading.values_of past t p l put life_is in
    stamped_is_never_late (events reading.values_of past) t l (legal_entries_are_legal reading past legal) life_is
    (subst (λ m. IsStamped m (events reading.values_of past)) same (all_stamped reading stamps p.sources p.config sync is (catalogue past) all past [] (append-nil (catalogue past)) legal))
    (λ x. subst (λ (m : Meaning). m.aligned x ≤ℤ x) same (aligned_below p.config sync x is delay))
