-- A palette that is saved by reading it comes back by writing it: the service tool's two jobs. Assumes nothing.
use Rattle.std.specs.Prelude.{◌≡◌, ℕ, true, List, ◌∷◌, map, length, drop, replicate, refl}
use Rattle.std.proofs.Common.{sym, ap, ap₂, ◌∙◌}
use Rattle.std.proofs.lemmas.Simd.{map-map}
use Rattle.std.proofs.lemmas.List.{length-map}
use Rattle.palette.specs.declared.Palette.{Palette}
use Rattle.palette.specs.declared.lent.Byte.{Byte}
use Rattle.palette.specs.Table.{Colour, six, gives}
use Rattle.palette.specs.State.{with_colours, ruled}
use Rattle.palette.specs.Access.{addressed, taken}
use Rattle.palette.specs.Calls.{Access, write, read}
use Rattle.palette.specs.TableLaws.{sets_all, gives_six, sixes_twice}
use Rattle.palette.specs.StateLaws.{ruled_parts}
use Rattle.palette.proofs.EntrySet.{address_write, entry_taken}
use Rattle.palette.specs.Session.{Session, first, session, done_with}
use Rattle.palette.proofs.SessionLaws.{session_cons, entries_read, entries_written}

-- ---- saving: 0 to select 3, then 768 reads of select 1

abbrev pub save : List Access
save = write 3 0 ∷ replicate 768 (read 1)

-- every number is 0, the bytes answered are the table's in order, the low six bits of each; the table stays, and the state is the one that
-- the write left
abbrev pub saved : Palette → List ℕ → Session
saved p t = record { answers = done_with 0 ∷ map (λ b. done_with (six b)) t; state = taken (addressed p 0) t; table = t }

-- ---- writing back: 0 to select 0, then 768 bytes to select 1

abbrev pub restore : List ℕ → List Access
restore bytes = write 0 0 ∷ map (write 1) bytes

-- every number is 0, and the table is the low six bits of the bytes; A and the phase are 0, and the registers hold the last colour
abbrev pub restored : Palette → List ℕ → Session
restored p bytes =
    record { answers = replicate 769 (done_with 0); state = with_colours (addressed p 0) (gives bytes 255); table = map six bytes }

abbrev written : Palette → Colour → List ℕ → Session
written p last t = record { answers = replicate 769 (done_with 0); state = with_colours (addressed p 0) last; table = t }

-- ---- both, for every allowed state and every table of 768 bytes

module _ (p : Palette) (t : List ℕ) (rule : ruled p ≡ true) (bytes : length t ≡ 768) where
  pub it_saves : session save p t ≡ saved p t
  it_saves =
      session_cons (write 3 0) (replicate 768 (read 1)) p t _ (entry_taken p t rule bytes 0)
      ∙ ap (first (done_with 0)) (entries_read p t (ruled_parts p rule) bytes 256 0 refl)

  pub it_restores : (l : List ℕ) → length l ≡ 768 → session (restore l) p t ≡ restored p l
  it_restores l m =
      session_cons (write 0 0) (map (write 1) l) p t _ (address_write p t rule bytes 0)
      ∙ ap (first (done_with 0)) (entries_written 255 0 refl l m p t (ruled_parts p rule) bytes)
      ∙ ap (written p (gives l 255)) (sets_all t (map six l) (length-map l six ∙ m ∙ sym bytes))

-- the bytes that the reads answered
abbrev pub bytes_read : Session → List ℕ
bytes_read s = map (λ (a : Byte). a.byte) (drop 1 s.answers)

-- written back, from any allowed state, to any table of 768 bytes, they make it that palette again: every entry gives the colour that it gave
module _ (p q : Palette) (t u : List ℕ) (p_rule : ruled p ≡ true) (q_rule : ruled q ≡ true) (bytes : length t ≡ 768) (room : length u ≡ 768) where
  pub comes_back : session (restore (bytes_read (session save p t))) q u ≡ restored q t
  comes_back =
      ap (λ (l : List ℕ). session (restore l) q u) (ap bytes_read (it_saves p t p_rule bytes) ∙ map-map (λ (a : Byte). a.byte) (λ b. done_with (six b)) t)
      ∙ it_restores q u q_rule room (map six t) (length-map t six ∙ bytes)
      ∙ ap₂ (written q) (gives_six t 255) (sixes_twice t)

  pub same_colours : (e : ℕ) → gives (session (restore (bytes_read (session save p t))) q u).table e ≡ gives t e
  same_colours e = ap (λ (s : Session). gives s.table e) comes_back ∙ gives_six t e
