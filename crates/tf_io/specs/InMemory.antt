-- A source and a sink in memory, as contracts see them.
use Rattle.std.specs.Prelude.{ℕ, ◌+◌, ◌-◌, ◌^◌, ◌==◌, ◌&&◌, not, min, List, Bool, true, if◌then◌else◌, Result, Ok, Err}
use Rattle.std.specs.List.{list_any}

-- the bytes that are left, the calls that fail, how many calls there were, and how many faults
pub record SourceState : Type 0 where
  pub left : List ℕ
  pub failing : List ℕ
  pub calls : ℕ
  pub faults : ℕ

-- the bytes that were written, the calls that fail, the calls that take nothing, and the counts of calls, faults and
-- growths that found no memory
pub record SinkState : Type 0 where
  pub written : List ℕ
  pub failing : List ℕ
  pub empty : List ℕ
  pub calls : ℕ
  pub faults : ℕ
  pub wanted : ℕ

-- the next number of a count that stays at the largest u64
abbrev pub counted : ℕ → ℕ
counted count = min (count + 1) (2 ^ 64 - 1)

-- the call is in the list
abbrev pub is_listed : List ℕ → ℕ → Bool
is_listed calls call = list_any (λ listed. listed == call) calls

-- the count after a call, which rises by one where the call is to be counted
abbrev pub counted_if : Bool → ℕ → ℕ
counted_if rises count = if rises then counted count else count

-- the next call is one of those that fail
abbrev pub fails_next : SinkState → Bool
fails_next sink = is_listed sink.failing (counted sink.calls)

-- the next call is one of those that take nothing, and none of those that fail
abbrev pub takes_none_next : SinkState → Bool
takes_none_next sink = not (fails_next sink) && is_listed sink.empty (counted sink.calls)

-- a write of a piece of that size failed, or took no byte of a piece that has some
abbrev pub is_write_fault : {E : Type 0} → Result ℕ E → ℕ → Bool
is_write_fault (Ok taken) size = taken == 0 && not (size == 0)
is_write_fault (Err _) size = true
