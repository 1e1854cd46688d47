-- The histories of frames: they grow by a frame, there is one at most, and a damaged frame is the first.
use Rattle.std.proofs.Common.{◌≡◌, inl, inr, ℕ, ◌≤◌, Bool, true, false, List, [], ◌∷◌, ◌++◌, length, sym, ◌∙◌, ap, subst, arith, length-append}
use Rattle.std.specs.List.{AllByRecursion}
use Rattle.std.proofs.lemmas.List.{append-nil}
use Rattle.tf_model.specs.declared.entry.Entry.{Entry}
use Rattle.tf_journal.specs.Frames.{Reading, reading, whole, damaged}
use Rattle.tf_event.specs.Entries.{FitsEntry}
use Rattle.tf_event.specs.declared.grammar.Grammar.TheVariants.{First}
use Rattle.tf_event.proofs.BodyLaws.{one_body}
use Rattle.tf_core.specs.Legal.{AreTakenAfter, IsTakenHistory}
use Rattle.tf_store.specs.Histories.{Spells, LeadsTo, Holds, IsDamagedAfter, HasDamagedBody, Content, history, damage, IsContent, Has, ContentIsOne, HistoriesAreTaken}
use Rattle.tf_store.specs.Answers.{TakesBody}
use Rattle.tf_store.proofs.Taken.{history_taken}

-- a body spells one list of entries
spells_one : (body : List ℕ) (es ds : List Entry) → Spells body es → Spells body ds → es ≡ ds
spells_one body es ds one other = one_body First es ds one.has_spelling other.has_spelling (sym one.spelling ∙ other.spelling)

pub leads_more : (before : List Entry) (bodies : List (List ℕ)) (body : List ℕ) (held es : List Entry) → LeadsTo before bodies held → Spells body es → AreTakenAfter held es → LeadsTo before (bodies ++ body ∷ []) (held ++ es)
leads_more before [] body held es leads spells taken = (es, spells, subst (λ (l : List Entry). AreTakenAfter l es) (sym leads) taken, ap (λ (l : List Entry). l ++ es) leads)
leads_more before (b ∷ bodies) body held es leads spells taken = (leads.0, leads.1, leads.2, leads_more (before ++ leads.0) bodies body held es leads.3 spells taken)

leads_one : (before : List Entry) (bodies : List (List ℕ)) (one other : List Entry) → LeadsTo before bodies one → LeadsTo before bodies other → one ≡ other
leads_one before [] one other a b = sym a ∙ b
leads_one before (body ∷ bodies) one other a b =
    let same : b.0 ≡ a.0 = spells_one body b.0 a.0 b.1 a.1 in
    leads_one (before ++ a.0) bodies one other a.3 (subst (λ (l : List Entry). LeadsTo (before ++ l) bodies other) same b.3)

leads_taken : (before : List Entry) (bodies : List (List ℕ)) (held : List Entry) → IsTakenHistory before → LeadsTo before bodies held → IsTakenHistory held
leads_taken before [] held taken leads = subst (λ (l : List Entry). IsTakenHistory l) leads taken
leads_taken before (body ∷ bodies) held taken leads = leads_taken (before ++ leads.0) bodies held (history_taken before leads.0 taken leads.2) leads.3

-- the entries of frames are a history whose entries were taken
pub holds_taken : (bodies : List (List ℕ)) (held : List Entry) → Holds bodies held → IsTakenHistory held
holds_taken bodies held holds = leads_taken [] bodies held tt holds

pub spelled_more : (before es : List Entry) → AllByRecursion (FitsEntry First) before → AllByRecursion (FitsEntry First) es → AllByRecursion (FitsEntry First) (before ++ es)
spelled_more [] es old new = new
spelled_more (e ∷ before) es old new = (old.0, spelled_more before es old.1 new)

leads_spelled : (before : List Entry) (bodies : List (List ℕ)) (held : List Entry) → AllByRecursion (FitsEntry First) before → LeadsTo before bodies held → AllByRecursion (FitsEntry First) held
leads_spelled before [] held spelled leads = subst (AllByRecursion (FitsEntry First)) leads spelled
leads_spelled before (body ∷ bodies) held spelled leads = leads_spelled (before ++ leads.0) bodies held (spelled_more before leads.0 spelled leads.1.has_spelling.each) leads.3

-- each entry of frames has a spelling
pub holds_spelled : (bodies : List (List ℕ)) (held : List Entry) → Holds bodies held → AllByRecursion (FitsEntry First) held
holds_spelled bodies held holds = leads_spelled [] bodies held tt holds

-- no frames that hold a history go past one that is damaged
none_past : (start : List Entry) (before : List (List ℕ)) (body : List ℕ) (later front rest : List (List ℕ)) (held other : List Entry) → before ++ body ∷ later ≡ front ++ rest → LeadsTo start before held → IsDamagedAfter held body → LeadsTo start front other
    → length front ≤ length before
none_past start before body later [] rest held other same leads bad others = omega arith
none_past start [] body later (f ∷ front) rest held other same leads bad others =
    let first : body ≡ f = ap first_of same in
    absurd (bad others.0 (subst (λ (b : List ℕ). Spells b others.0) (sym first) others.1) (subst (λ (l : List Entry). AreTakenAfter l others.0) leads others.2))
  where
    first_of : List (List ℕ) → List ℕ
    first_of [] = []
    first_of (x ∷ xs) = x
none_past start (b ∷ before) body later (f ∷ front) rest held other same leads bad others =
    let first : f ≡ b = sym (ap first_of same) in
    let es : others.0 ≡ leads.0 = spells_one b others.0 leads.0 (subst (λ (x : List ℕ). Spells x others.0) first others.1) leads.1 in
    let more = none_past (start ++ leads.0) before body later front rest held other (ap rest_of same) leads.3 bad (subst (λ (l : List Entry). LeadsTo (start ++ l) front other) es others.3) in
    omega (arith, more)
  where
    first_of : List (List ℕ) → List ℕ
    first_of [] = []
    first_of (x ∷ xs) = x

    rest_of : List (List ℕ) → List (List ℕ)
    rest_of [] = []
    rest_of (x ∷ xs) = xs

-- frames with a damaged one hold no history
not_both : (bodies : List (List ℕ)) (held : List Entry) (frame : ℕ) → Holds bodies held → HasDamagedBody bodies frame → ⊥
not_both bodies held frame holds d =
    let most = none_past [] d.before d.body d.later bodies [] d.history held (sym d.parts ∙ sym (append-nil bodies)) d.holds d.damage holds in
    omega (arith, most, ap length d.parts, length-append d.before (d.body ∷ d.later))

-- the first frame whose body is damaged is one
body_once : (bodies : List (List ℕ)) (one other : ℕ) → HasDamagedBody bodies one → HasDamagedBody bodies other → one ≡ other
body_once bodies one other d e =
    let below = none_past [] d.before d.body d.later e.before (e.body ∷ e.later) d.history e.history (sym d.parts ∙ e.parts) d.holds d.damage e.holds in
    let above = none_past [] e.before e.body e.later d.before (d.body ∷ d.later) e.history d.history (sym e.parts ∙ d.parts) e.holds e.damage d.holds in
    omega (arith, below, above, d.number, e.number)

is_one : (read : Reading) (one other : Content) → IsContent read one → IsContent read other → one ≡ other
is_one (whole bodies) (history h) (history k) a b = ap history (leads_one [] bodies h k a b)
is_one (whole bodies) (history h) (damage f) a b = absurd (not_both bodies h f a b)
is_one (whole bodies) (damage f) (history h) a b = absurd (not_both bodies h f b a)
is_one (whole bodies) (damage f) (damage k) a b = ap damage (body_once bodies f k a b)
is_one (damaged n bodies) (history h) other a b = absurd a
is_one (damaged n bodies) (damage f) (history h) a b = absurd b
is_one (damaged n bodies) (damage f) (damage k) (inl a) (inl b) = ap damage (body_once bodies f k a b)
is_one (damaged n bodies) (damage f) (damage k) (inl a) (inr b) = absurd (not_both bodies b.history f b.holds a)
is_one (damaged n bodies) (damage f) (damage k) (inr a) (inl b) = absurd (not_both bodies a.history k a.holds b)
is_one (damaged n bodies) (damage f) (damage k) (inr a) (inr b) = ap damage (a.number ∙ sym b.number)

-- bytes have one history or one least damaged frame
pub content_is_one : ContentIsOne
content_is_one bytes one other a b = is_one (reading bytes) one other a b

taken_in : (read : Reading) (held : List Entry) → IsContent read (history held) → IsTakenHistory held
taken_in (whole bodies) held has = holds_taken bodies held has
taken_in (damaged n bodies) held has = absurd has

-- the history of bytes was taken
pub histories_are_taken : HistoriesAreTaken
histories_are_taken bytes held has = taken_in (reading bytes) held has

-- bytes that are read as frames have what the frames have
pub has_what : (read : Reading) (bytes : List ℕ) (content : Content) → reading bytes ≡ read → IsContent read content → Has bytes content
has_what read bytes content is = subst (λ (r : Reading). IsContent r content) (sym is)

-- what one file has, another that is read alike has too
pub has_same : (bytes image : List ℕ) (content : Content) → reading image ≡ reading bytes → Has bytes content → Has image content
has_same bytes image content is = subst (λ (r : Reading). IsContent r content) (sym is)

-- a turn of the loop over frames
pub holds_more : (front : List (List ℕ)) (frame body : List ℕ) (held now : List Entry) (taken : Bool) → Holds front held → body ≡ frame → taken ≡ true → TakesBody held body now taken → Holds (front ++ frame ∷ []) now
holds_more front frame body held now taken holds same is takes =
    let all : TakesBody held frame now true = subst (λ (p : List ℕ × Bool). TakesBody held p.0 now p.1) (λ i. (same i, is i)) takes in
    subst (λ (l : List Entry). Holds (front ++ frame ∷ []) l) (sym all.3) (leads_more [] front frame held all.0 holds all.1 all.2)

pub damaged_here : (frame body : List ℕ) (held now : List Entry) (taken : Bool) → body ≡ frame → taken ≡ false → TakesBody held body now taken → IsDamagedAfter held frame
damaged_here frame body held now taken same is takes = subst (λ (p : List ℕ × Bool). TakesBody held p.0 now p.1) (λ i. (same i, is i)) takes
