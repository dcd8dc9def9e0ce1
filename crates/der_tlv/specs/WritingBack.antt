-- The results of the calls of a writer that is filled from its end.
use Rattle.std.specs.Prelude.{◌≡◌, ℕ, ◌+◌, ◌-◌, List, [], ◌++◌, length, take, drop, Bool, false}
use Rattle.der_tlv.specs.Writing.{WriterState, is_overlength, refuses_first_with, room_unless_failed}

-- the octets are before those that were held
pub record Put (octets : List ℕ) (old new : WriterState) : Type 0 where
  pub held : new.back.held ≡ octets ++ old.back.held
  pub room : new.back.room + length octets ≡ old.back.room
  pub gap : new.back.gap ≡ old.back.gap
  pub start : new.start ≡ old.start

-- a gap of `count` octets is before those that are held, for writing in order; nothing was written into it yet
pub record Opened (count : ℕ) (old new : WriterState) : Type 0 where
  pub taken : new.taken ≡ []
  pub failed : new.failed ≡ false
  pub room : new.room ≡ count
  pub may_refuse : new.may_refuse ≡ is_overlength
  pub start : new.start ≡ old.start
  pub back : new.back ≡ record { room = old.back.room - count; held = old.back.held; gap = count }

-- the octets that were written in order are before those that were held
pub record Closed (old new : WriterState) : Type 0 where
  pub held : new.back.held ≡ old.taken ++ old.back.held
  pub room : new.back.room ≡ old.back.room
  pub gap : new.back.gap ≡ 0
  pub start : new.start ≡ old.start

-- the state of a buffer that holds the octets from `start` on, with a gap before them whose first `filled` octets are written
abbrev pub back_state : List ℕ → ℕ × ℕ → ℕ → ℕ → ℕ → Bool → WriterState
back_state octets origin start gap filled failed =
    record { taken = take filled (drop (start - gap) octets); start = origin; failed = failed; room = room_unless_failed failed (gap - filled); may_refuse = refuses_first_with is_overlength failed; back = record { room = start - gap; held = drop start octets; gap = gap } }
