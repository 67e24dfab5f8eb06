-- The memory state: document 01, "The memory and its registers", and change request M-107. Assumes nothing.
use Rattle.std.specs.Prelude.{ℕ, ◌/◌, Bool, true, false, cond, not, ◌&&◌, ◌==◌, nat_lt}
use Rattle.vram.specs.declared.Vram.{Vram}
use Rattle.vram.specs.declared.Waiting.{Waiting}
use Rattle.vram.specs.declared.Waiting.TheVariants.{None, Tap}
use Rattle.vram.specs.declared.Stop.{Stop}
use Rattle.vram.specs.declared.Stop.TheVariants.{Every16, Every32, Every64, Every128}

-- ---- stop points of the serial register

-- the length of a partition
abbrev pub stop_length : Stop → ℕ
stop_length Every16 = 16
stop_length Every32 = 32
stop_length Every64 = 64
stop_length Every128 = 128

-- the stop points that a length asks for; whoever has another than the four refuses it before
abbrev pub stop_of : ℕ → Stop
stop_of length = cond (length == 16) Every16 (cond (length == 32) Every32 (cond (length == 64) Every64 Every128))

-- ---- fresh

-- all registers and the pointer 0, not persistent, nothing loaded or waiting, partitions of 128
abbrev pub fresh : Vram
fresh = record { colour = 0; mask = 0; persistent = false; loaded = false; pointer = 0; waiting = None; stop = Every128 }

-- ---- a state with one thing changed

abbrev pub with_colour : Vram → ℕ → Vram
with_colour s c =
    record { colour = c; mask = s.mask; persistent = s.persistent; loaded = s.loaded; pointer = s.pointer; waiting = s.waiting; stop = s.stop }

abbrev pub with_mask : Vram → ℕ → Bool → Vram
with_mask s m p =
    record { colour = s.colour; mask = m; persistent = p; loaded = s.loaded; pointer = s.pointer; waiting = s.waiting; stop = s.stop }

abbrev pub with_serial : Vram → Bool → ℕ → Waiting → Vram
with_serial s l p w =
    record { colour = s.colour; mask = s.mask; persistent = s.persistent; loaded = l; pointer = p; waiting = w; stop = s.stop }

abbrev pub with_stop : Vram → Stop → Vram
with_stop s t =
    record { colour = s.colour; mask = s.mask; persistent = s.persistent; loaded = s.loaded; pointer = s.pointer; waiting = s.waiting; stop = t }

-- ---- halves of the serial register

-- the half that holds a place: places 0 to 127, and 128 to 255
abbrev pub half_of : ℕ → ℕ
half_of place = place / 128

-- the half without the pointer
abbrev pub other : ℕ → ℕ
other pointer = cond (nat_lt pointer 128) 1 0

-- ---- the states that the rules allow

-- a waiting tap needs a full transfer made and lies in the half that does not hold the pointer
abbrev pub tap_ok : ℕ → Bool → ℕ → Bool
tap_ok tap loaded pointer = loaded && not (half_of tap == half_of pointer)

abbrev pub waiting_ok : Waiting → Bool → ℕ → Bool
waiting_ok None loaded pointer = true
waiting_ok (Tap tap) loaded pointer = tap_ok tap loaded pointer

-- of the length of a partition nothing is asked: a `Stop` has one of the four (`length_ok`)
unfoldable pub ruled : Vram → Bool
ruled s = waiting_ok s.waiting s.loaded s.pointer
