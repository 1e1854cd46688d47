-- Each key's row, whatever is late.
use Rattle.std.proofs.Common.{◌≡◌, ℕ, ℤ, ◌+◌, ◌<◌, Bool, true, false, cond, not, ◌&&◌, ◌||◌, List, [], ◌∷◌, ◌++◌, length, map, take, drop, Option, Some, None, arith, refl, sym, ap, ◌∙◌, subst, inl, inr, ◌⊎◌, append_assoc}
use Rattle.std.specs.Prelude.{⊤, IfSome}
use Rattle.std.specs.List.{filter}
use Rattle.std.proofs.lemmas.List.{append-nil}
use Rattle.std.proofs.lemmas.List.Elements.{filter-append}
use Rattle.tf_history.specs.Grouping.{counted, row_of, stays, row_at, keep}
use Rattle.tf_model.specs.Keys.{is_among}
use Rattle.tf_history.specs.Lives.{Checkpoint, Life, Act, act, life, life_after, lived, fresh, documents, from_sources, cutoff, changed, window, counted_last, last_row, put_rows, last_key}
use Rattle.tf_model.specs.Changed.{is_after}
use Rattle.tf_history.specs.Lives.Act.{Aside, Opens, Reopens, Closes, Writes, Begins, Pages, Finishes, Turns}
use Rattle.tf_history.specs.Legality.{IsLegal, PagesRight, RightAct}
use Rattle.tf_history.proofs.Keys.{IsAscending, ascending-all_keys, ascending_filter, above_page, is_among-filter, among_split, front_apart, last_of}
use Rattle.tf_history.proofs.Rows.{keys_in, row_at-put_rows, ascending-put_rows, row_at_keep, ascending_keep, keys_from, last_key-keys}
use Rattle.tf_history.proofs.Counting.{keyed, keep_later, keep_same}
use Rattle.tf_history.specs.Laws.{IsSteady}
use Rattle.tf_history.proofs.Acts.{may_act, act_writes, documents_act}
use Rattle.tf_history.specs.Acts.{MayAct}
use Rattle.tf_history.specs.Events.{Event}
use Rattle.tf_history.specs.Meaning.{Meaning, row_key}
use Rattle.tf_model.specs.declared.doc.Doc.{Doc}
use Rattle.tf_model.specs.declared.entry.Row.{Row}
use Rattle.tf_model.specs.declared.value.Key.{Key}

-- ---- retention values among more documents
abbrev pub IsSettled : Meaning → List Checkpoint → List Doc → Type 0
IsSettled c checkpoints docs = (k : Key) (r : Row) (more : List Doc) → last_row c checkpoints k ≡ Some r → c.retained (docs ++ more) r ≡ c.retained docs r

abbrev pub AllSettled : Meaning → List Checkpoint → List Doc → Type 0
AllSettled c [] docs = ⊤
AllSettled c (b ∷ before) docs = IsSettled c (b ∷ before) docs × AllSettled c before docs

more_settled : (c : Meaning) (checkpoints : List Checkpoint) (docs new : List Doc) → AllSettled c checkpoints docs → AllSettled c checkpoints (docs ++ new)
more_settled c [] docs new h = tt
more_settled c (b ∷ before) docs new h =
    (λ k r more e. ap (λ ds. c.retained ds r) (append_assoc docs new more) ∙ (h.0 k r (new ++ more) e ∙ sym (h.0 k r new e)), more_settled c before docs new h.1)

begin_settled : (c : Meaning) → IsSteady c → (b : Checkpoint) (checkpoints : List Checkpoint) → AllSettled c checkpoints b.read
    → AllSettled c (b ∷ checkpoints) b.read
begin_settled c steady b checkpoints h = (here, h)
  where
    old : (before : List Checkpoint) → AllSettled c before b.read → (k : Key) (r : Row) (more : List Doc) → last_row c before k ≡ Some r
        → c.retained (b.read ++ more) r ≡ c.retained b.read r
    old [] g k r more e = absurd (let z : ◌≡◌ {A = Option Row} None (Some r) = e in cc)
    old (a ∷ before) g k r more e = g.0 k r more e

    here : (k : Key) (r : Row) (more : List Doc) → last_row c (b ∷ checkpoints) k ≡ Some r → c.retained (b.read ++ more) r ≡ c.retained b.read r
    here k r more =
        elim (is_among (changed c (b ∷ checkpoints)) k) as (λ t. cond t (row_of c (counted c b.bound b.read) k) (last_row c checkpoints k) ≡ Some r → c.retained (b.read ++ more) r ≡ c.retained b.read r) [
          | true ↦ λ e. steady b.read more b.bound k r e
          | false ↦ λ e. old checkpoints h k r more e
        ]

settled_keep : (c : Meaning) (checkpoints : List Checkpoint) (docs new : List Doc) (cut : Option ℤ) (k : Key) → AllSettled c checkpoints docs
    → keep (stays c docs cut) (last_row c checkpoints k) ≡ keep (stays c (docs ++ new) cut) (last_row c checkpoints k)
settled_keep c [] docs new cut k h = refl
settled_keep c (b ∷ before) docs new cut k h = keep_same c docs (docs ++ new) cut (last_row c (b ∷ before) k) (λ r e. h.0 k r new e)

-- ---- the invariant; docs are the documents written into the sources
-- just after a Finish
pub record IdleRows (c : Meaning) (docs : List Doc) (checkpoints : List Checkpoint) (finished : ℕ) (rows : List Row) : Type 0 where
  pub count : finished ≡ length checkpoints
  pub each : (k : Key) → row_at k rows ≡ keep (stays c docs (cutoff c checkpoints)) (last_row c checkpoints k)

-- in the middle of a checkpoint
pub record RunningRows (c : Meaning) (docs : List Doc) (b : Checkpoint) (before : List Checkpoint) (finished : ℕ) (position : Option Key) (rows : List Row) : Type 0 where
  pub count : finished ≡ length before
  pub each : (k : Key)
      → row_at k rows ≡ cond (is_among (changed c (b ∷ before)) k && not (is_after position k)) (row_of c (counted c b.bound b.read) k) (keep (stays c docs (cutoff c before)) (last_row c before k))

abbrev pub IsRunningRows : Meaning → List Doc → List Checkpoint → ℕ → Option Key → List Row → Type 0
IsRunningRows c docs [] finished position rows = ⊥
IsRunningRows c docs (b ∷ before) finished position rows = RunningRows c docs b before finished position rows

pub record RowsHold (c : Meaning) (docs : List Doc) (checkpoints : List Checkpoint) (finished : ℕ) (position : Option Key) (rows : List Row) : Type 0 where
  pub ascending : IsAscending (keys_in rows)
  pub settled : AllSettled c checkpoints docs
  pub phase : IdleRows c docs checkpoints finished rows ⊎ IsRunningRows c docs checkpoints finished position rows

-- of all documents written
abbrev pub LifeRowsHold : List Doc → Life → Type 0
LifeRowsHold docs l = IsSteady l.meaning → RowsHold l.meaning (from_sources l.meaning docs) l.checkpoints l.finished l.position l.rows

-- ---- a Write
grown : (c : Meaning) (docs new : List Doc) (checkpoints : List Checkpoint) (finished : ℕ) (position : Option Key) (rows : List Row)
    → RowsHold c docs checkpoints finished position rows → RowsHold c (docs ++ new) checkpoints finished position rows
grown c docs new checkpoints finished position rows h =
    record {
      ascending = h.ascending;
      settled = more_settled c checkpoints docs new h.settled;
      phase = elim h.phase [
        | inl i ↦ inl (record { count = i.count; each = λ k. i.each k ∙ settled_keep c checkpoints docs new (cutoff c checkpoints) k h.settled })
        | inr r ↦ inr (running checkpoints h.settled r)
      ];
    }
  where
    running : (cs : List Checkpoint) → AllSettled c cs docs → IsRunningRows c docs cs finished position rows
        → IsRunningRows c (docs ++ new) cs finished position rows
    running [] g r = r
    running (b ∷ before) g r = record { count = r.count; each = λ k. r.each k ∙ ap (λ o. cond (is_among (changed c (b ∷ before)) k && not (is_after position k)) (row_of c (counted c b.bound b.read) k) o) (settled_keep c before docs new (cutoff c before) k g.1) }

-- ---- a Begin
begun : (c : Meaning) (b : Checkpoint) (checkpoints : List Checkpoint) (finished : ℕ) (position : Option Key) (rows : List Row) → IsSteady c
    → finished ≡ length checkpoints → RowsHold c b.read checkpoints finished position rows → RowsHold c b.read (b ∷ checkpoints) finished None rows
begun c b checkpoints finished position rows steady idle h =
    record { ascending = h.ascending; settled = begin_settled c steady b checkpoints h.settled; phase = inr (elim h.phase [ inl i ↦ now i | inr r ↦ absurd (clash checkpoints idle r) ]) }
  where
    clash : (before : List Checkpoint) → finished ≡ length before → IsRunningRows c b.read before finished position rows → ⊥
    clash [] e r = r
    clash (a ∷ before) e r = let n = r.count in omega arith

    never : (t : Bool) (x y : Option Row) → y ≡ cond (t && not true) x y
    never true x y = refl
    never false x y = refl

    now : IdleRows c b.read checkpoints finished rows → RunningRows c b.read b checkpoints finished None rows
    now i = record { count = i.count; each = λ k. i.each k ∙ never (is_among (changed c (b ∷ checkpoints)) k) (row_of c (counted c b.bound b.read) k) (keep (stays c b.read (cutoff c checkpoints)) (last_row c checkpoints k)) }

-- ---- a Page
paged_tests : (t d ch a b : Bool) (x y : Option Row) → (ch && a) ≡ (t || d) → (ch && b) ≡ d → (t ≡ true → d ≡ false)
    → cond t x (cond (ch && not a) x y) ≡ cond (ch && not b) x y
paged_tests true true ch a b x y e f g = absurd (let z : true ≡ false = g refl in cc)
paged_tests true false true a true x y e f g = absurd (let z : true ≡ false = f in cc)
paged_tests true false true a false x y e f g = refl
paged_tests true false false a b x y e f g = absurd (let z : false ≡ true = e in cc)
paged_tests false d true a b x y e f g = ap (λ z. cond (not z) x y) (e ∙ sym f)
paged_tests false d false a b x y e f g = refl

pub filled : (rows : List Row) → 0 < length rows → last_key rows ≡ None → ⊥
filled [] h e = omega arith
filled (r ∷ []) h e = let f : ◌≡◌ {A = Option Key} (Some (row_key r)) None = e in cc
filled (r ∷ s ∷ rows) h e = filled (s ∷ rows) (omega arith) e

paged : (c : Meaning) (docs : List Doc) (b : Checkpoint) (before : List Checkpoint) (finished : ℕ) (position : Option Key) (rows page : List Row) (size : ℕ)
    → 0 < length page → map Some page ≡ map (row_of c (counted c b.bound b.read)) (take size (filter (is_after position) (changed c (b ∷ before))))
    → RunningRows c docs b before finished position rows → RunningRows c docs b before finished (last_key page) (put_rows page rows)
paged c docs b before finished position rows page size some right r =
    record { count = r.count; each = last_case (last_key page) refl }
  where
    keys : List Key
    keys = changed c (b ∷ before)

    left : List Key
    left = filter (is_after position) (changed c (b ∷ before))

    make : Key → Option Row
    make k = row_of c (counted c b.bound b.read) k

    page_keys : keys_in page ≡ take size (filter (is_after position) (changed c (b ∷ before)))
    page_keys = keys_from (row_of c (counted c b.bound b.read)) (keyed c (counted c b.bound b.read)) page (take size (filter (is_after position) (changed c (b ∷ before)))) right

    last_case : (o : Option Key) → last_key page ≡ o → (k : Key)
        → row_at k (put_rows page rows) ≡ cond (is_among (changed c (b ∷ before)) k && not (is_after o k)) (row_of c (counted c b.bound b.read) k) (keep (stays c docs (cutoff c before)) (last_row c before k))
    last_case None e k = absurd (filled page some e)
    last_case (Some last) e k =
        let end : last_of (take size left) ≡ Some last = ap last_of (sym page_keys) ∙ (sym (last_key-keys page) ∙ e) in
        let rest : filter (is_after (Some last)) keys ≡ drop size left = above_page keys position size last (ascending-all_keys c (window c (b ∷ before))) end in
        row_at-put_rows make (keyed c (counted c b.bound b.read)) k page (take size left) rows right
        ∙ (ap (λ o. cond (is_among (take size left) k) (make k) o) (r.each k)
        ∙ paged_tests (is_among (take size left) k) (is_among (drop size left) k) (is_among keys k) (is_after position k) (is_after (Some last) k) (make k) (keep (stays c docs (cutoff c before)) (last_row c before k))
        (sym (is_among-filter (is_after position) k keys) ∙ among_split size k left)
        (sym (is_among-filter (is_after (Some last)) k keys) ∙ ap (λ ks. is_among ks k) rest)
        (front_apart size k left (ascending_filter (is_after position) keys (ascending-all_keys c (window c (b ∷ before))))))

paged_hold : (c : Meaning) (docs : List Doc) (checkpoints : List Checkpoint) (n finished : ℕ) (position : Option Key) (rows page : List Row) (size : ℕ)
    → n ≡ finished + 1 → n ≡ length checkpoints → 0 < length page
    → map Some page ≡ map (row_of c (counted_last c checkpoints)) (take size (filter (is_after position) (changed c checkpoints)))
    → RowsHold c docs checkpoints finished position rows → RowsHold c docs checkpoints finished (last_key page) (put_rows page rows)
paged_hold c docs [] n finished position rows page size m k some right h = absurd (omega arith)
paged_hold c docs (b ∷ before) n finished position rows page size m k some right h =
    record {
      ascending = ascending-put_rows page rows h.ascending;
      settled = h.settled;
      phase = inr (elim h.phase [ inl i ↦ absurd (let z = i.count in omega arith) | inr r ↦ paged c docs b before finished position rows page size some right r ]);
    }

-- ---- a Finish
finish_tests : (p q : Row → Bool) (ch a : Bool) (x y : Option Row) → (ch && a) ≡ false → keep p (keep q y) ≡ keep p y
    → keep p (cond (ch && not a) x (keep q y)) ≡ keep p (cond ch x y)
finish_tests p q true true x y e f = absurd (let z : true ≡ false = e in cc)
finish_tests p q true false x y e f = refl
finish_tests p q false a x y e f = f

done : (c : Meaning) (docs : List Doc) (b : Checkpoint) (before : List Checkpoint) (n finished : ℕ) (position : Option Key) (rows : List Row)
    → n ≡ length (b ∷ before) → filter (is_after position) (changed c (b ∷ before)) ≡ [] → IsAscending (keys_in rows)
    → RunningRows c docs b before finished position rows → IdleRows c docs (b ∷ before) n (filter (stays c docs (cutoff c (b ∷ before))) rows)
done c docs b before n finished position rows count none ascending r =
    record {
      count = count;
      each = λ k. row_at_keep (stays c docs (cutoff c (b ∷ before))) k rows ascending
          ∙ (ap (keep (stays c docs (cutoff c (b ∷ before)))) (r.each k)
          ∙ finish_tests (stays c docs (cutoff c (b ∷ before))) (stays c docs (cutoff c before)) (is_among (changed c (b ∷ before)) k) (is_after position k) (row_of c (counted c b.bound b.read) k) (last_row c before k)
          (sym (is_among-filter (is_after position) k (changed c (b ∷ before))) ∙ ap (λ ks. is_among ks k) none)
          (keep_later c docs b before (last_row c before k)));
    }

done_hold : (c : Meaning) (docs : List Doc) (checkpoints : List Checkpoint) (n finished : ℕ) (position : Option Key) (rows : List Row)
    → n ≡ finished + 1 → n ≡ length checkpoints → filter (is_after position) (changed c checkpoints) ≡ []
    → RowsHold c docs checkpoints finished position rows → RowsHold c docs checkpoints n position (filter (stays c docs (cutoff c checkpoints)) rows)
done_hold c docs [] n finished position rows m k none h = absurd (omega arith)
done_hold c docs (b ∷ before) n finished position rows m k none h =
    record {
      ascending = ascending_keep (stays c docs (cutoff c (b ∷ before))) rows h.ascending;
      settled = h.settled;
      phase = inl (elim h.phase [ inl i ↦ absurd (let z = i.count in omega arith) | inr r ↦ done c docs b before n finished position rows k none h.ascending r ]);
    }

-- ---- over the history
fresh_hold : (c : Meaning) (docs : List Doc) → LifeRowsHold docs (fresh c)
fresh_hold c docs steady = record { ascending = tt; settled = tt; phase = inl (record { count = refl; each = λ k. refl }) }

same_docs : (l : Life) (docs now : List Doc) → now ≡ docs ++ [] → LifeRowsHold docs l → LifeRowsHold now l
same_docs l docs now e h = subst (λ ds. LifeRowsHold ds l) (sym (e ∙ append-nil docs)) h

step : (docs now : List Doc) (a : Act) (o : Option Life) (P : Type 0) → now ≡ docs ++ act_writes a → MayAct a o → RightAct a o P
    → (P → IfSome o (LifeRowsHold docs)) → IfSome (life_after docs a o) (LifeRowsHold now)
step docs now (Opens c) o P e m r h = fresh_hold c now
step docs now Reopens None P e m r h = tt
step docs now Reopens (Some l) P e m r h = fresh_hold l.meaning now
step docs now Closes o P e m r h = tt
step docs now Aside None P e m r h = tt
step docs now Aside (Some l) P e m r h = same_docs l docs now e (h r)
step docs now (Turns turn) None P e m r h = tt
step docs now (Turns turn) (Some l) P e m r h = same_docs l docs now e (h r)
step docs now (Writes d) None P e m r h = tt
step docs now (Writes d) (Some l) P e m r h = λ steady.
    subst (λ ds. RowsHold l.meaning ds l.checkpoints l.finished l.position l.rows) (sym (ap (from_sources l.meaning) e ∙ filter-append (λ x. l.meaning.is_source x.index) docs (d ∷ [])))
    (grown l.meaning (from_sources l.meaning docs) (from_sources l.meaning (d ∷ [])) l.checkpoints l.finished l.position l.rows (h r steady))
step docs now (Begins n bound moment) None P e m r h = tt
step docs now (Begins n bound moment) (Some l) P e m r h =
    let b : Checkpoint = record { bound = bound; moment = moment; read = from_sources l.meaning docs; late = l.late } in
    subst (λ ds. LifeRowsHold ds (lived docs (Begins n bound moment) l)) (sym (e ∙ append-nil docs)) (λ steady. begun l.meaning b l.checkpoints l.finished l.position l.rows steady m.idle (h r steady))
step docs now (Pages n rows) None P e m r h = tt
step docs now (Pages n rows) (Some l) P e m r h =
    same_docs (lived docs (Pages n rows) l) docs now e (λ steady. paged_hold l.meaning (from_sources l.meaning docs) l.checkpoints n l.finished l.position l.rows rows l.meaning.page_size m.running.0 m.running.1 r.0.some r.0.same (h r.1 steady))
step docs now (Finishes n) None P e m r h = tt
step docs now (Finishes n) (Some l) P e m r h =
    same_docs (lived docs (Finishes n) l) docs now e (λ steady. done_hold l.meaning (from_sources l.meaning docs) l.checkpoints n l.finished l.position l.rows m.running.0 m.running.1 m.nothing_left (h r steady))

pub rows_hold : (t : List ℕ) (past : List Event) → IsLegal past → PagesRight t past → IfSome (life t past) (LifeRowsHold (documents past))
rows_hold t [] legal right = tt
rows_hold t (e ∷ past) legal right =
    step (documents past) (documents (e ∷ past)) (act t e) (life t past) (PagesRight t past) (documents_act t e past) (may_act t e past legal.1) right (rows_hold t past legal.0)
