-- Entries read and written one after the other. Assumes nothing.
use Rattle.std.specs.Prelude.{◌≡◌, ℕ, zero, suc, ◌+◌, ◌*◌, ◌%◌, List, [], ◌∷◌, map, length, drop, replicate, refl}
use Rattle.std.proofs.Common.{sym, ap, ap₂, ◌∙◌, subst, arith}
use Rattle.std.proofs.lemmas.List.Edits.{sets}
use Rattle.std.proofs.Math.Seq.{drop-length}
use Rattle.palette.specs.declared.Palette.{Palette}
use Rattle.palette.specs.declared.Accessed.{Accessed}
use Rattle.palette.specs.Table.{Colour, colour, six, sixes, gives, store}
use Rattle.palette.specs.State.{with_colours, moved, register}
use Rattle.palette.specs.Access.{addressed, taken, colour_read}
use Rattle.palette.specs.Calls.{accessed, Outcome, outcome, Access, write, read, access}
use Rattle.palette.specs.TableLaws.{store_length, gives_later, drop_entry, store_sets}
use Rattle.palette.specs.StateLaws.{Ruled, ruled_whole, six_small, moved_ruled}
use Rattle.palette.proofs.AccessLaws.{addressed_ruled, taken_ruled}
use Rattle.palette.proofs.EntrySet.{to_green, to_blue, red_write, green_write, blue_write}
use Rattle.palette.proofs.ReadLaws.{colour_read_is}
use Rattle.palette.specs.Session.{Session, answered, first, session, done_with}

-- these bytes, each with number 0, before others
abbrev also : List ℕ → Session → Session
also [] s = s
also (b ∷ l) s = first (done_with b) (also l s)

pub session_nil : (p : Palette) (t : List ℕ) → session [] p t ≡ record { answers = []; state = p; table = t }
unfolding session
session_nil p t = refl

-- the first access, by what it is known to answer and to leave
pub session_cons : (a : Access) (l : List Access) (p : Palette) (t : List ℕ) (o : Outcome) → access a p t ≡ o
    → session (a ∷ l) p t ≡ first (answered o) (session l o.answer.state o.table)
unfolding session
session_cons a l p t o e = ap (λ (o : Outcome). first (answered o) (session l o.answer.state o.table)) e

-- ---- reads

module _ (p : Palette) (t : List ℕ) (rule : Ruled p) (bytes : length t ≡ 768) where
  -- as a write of k to select 3 leaves the palette
  abbrev pub held : ℕ → Palette
  held k = taken (addressed p k) t

  read_cons : (l : List Access) (q : Palette) → Ruled q
      → session (read 1 ∷ l) q t ≡ also (register q ∷ []) (session l (colour_read q t) t)
  read_cons l q r =
      session_cons (read 1) l q t (outcome (accessed (colour_read q t) (register q) 0) t)
      (ap (λ (a : Accessed). outcome a t) (colour_read_is q t (ruled_whole q r) bytes))

  -- three reads answer entry k, and leave the palette at the next
  entry_read : (k : ℕ) (l : List Access)
      → session (read 1 ∷ read 1 ∷ read 1 ∷ l) (held k) t
      ≡ also ((gives t k).red ∷ (gives t k).green ∷ (gives t k).blue ∷ []) (session l (held ((k + 1) % 256)) t)
  entry_read k l =
      let q = held k in
      let r = taken_ruled (addressed p k) (addressed_ruled p rule k) t in
      let green = moved q in
      let green_ruled = moved_ruled q r in
      read_cons (read 1 ∷ read 1 ∷ l) q r
      ∙ ap (also ((gives t k).red ∷ [])) (read_cons (read 1 ∷ l) green green_ruled)
      ∙ ap (also ((gives t k).red ∷ (gives t k).green ∷ [])) (read_cons l (moved green) (moved_ruled green green_ruled))

  -- from entry k to the last: the table's bytes in order, the low six bits of each
  pub entries_read : (n k : ℕ) → k + n ≡ 256
      → session (replicate (3 * n) (read 1)) (held (k % 256)) t
      ≡ record { answers = map (λ b. done_with (six b)) (drop (3 * k) t); state = held 0; table = t }
  entries_read zero k e =
      let last : k ≡ 256 = omega arith in
      let none : drop 768 t ≡ [] = subst (λ (n : ℕ). drop n t ≡ []) bytes (drop-length t) in
      rw (last, none) (session_nil (held 0) t)
  entries_read (suc n) k e =
      let thrice : 3 * suc n ≡ suc (suc (suc (3 * n))) = omega arith in
      let here : k % 256 ≡ k = omega arith in
      let next : (k + 1) % 256 ≡ suc k % 256 = omega arith in
      rw (thrice, here, drop_entry t k (omega (arith, bytes)))
      (entry_read k (replicate (3 * n) (read 1))
      ∙ ap (also ((gives t k).red ∷ (gives t k).green ∷ (gives t k).blue ∷ []))
      (ap (λ (i : ℕ). session (replicate (3 * n) (read 1)) (held i) t) next ∙ entries_read n (suc k) (omega (arith, e))))

-- ---- writes

-- three writes from phase 0 set entry k, and leave the palette at the next
entry_written : (p : Palette) (t : List ℕ) → Ruled p → length t ≡ 768 → (k r g b : ℕ) (l : List Access)
    → session (write 1 r ∷ write 1 g ∷ write 1 b ∷ l) (addressed p k) t
    ≡ also (0 ∷ 0 ∷ 0 ∷ [])
    (session l (addressed (with_colours p (sixes (colour r g b))) ((k + 1) % 256)) (store t k (sixes (colour r g b))))
entry_written p t rule bytes k r g b l =
    session_cons (write 1 r) (write 1 g ∷ write 1 b ∷ l) (addressed p k) t _ (red_write p t k r g b rule bytes)
    ∙ ap (also (0 ∷ [])) (session_cons (write 1 g) (write 1 b ∷ l) (to_green p k r) t _ (green_write p t k r g b rule bytes))
    ∙ ap (also (0 ∷ 0 ∷ [])) (session_cons (write 1 b) l (to_blue p k r g) t _ (blue_write p t k r g b rule bytes))

-- from entry k to the last: every number 0, and the table takes the low six bits of each byte from entry k on
pub entries_written : (n k : ℕ) → k + suc n ≡ 256 → (l : List ℕ) → length l ≡ 3 * suc n
    → (p : Palette) (t : List ℕ) → Ruled p → length t ≡ 768
    → session (map (write 1) l) (addressed p (k % 256)) t
    ≡ record {
      answers = replicate (3 * suc n) (done_with 0);
      state = addressed (with_colours p (gives l n)) 0;
      table = sets t (3 * k) (map six l);
    }
entries_written n k e [] m p t rule bytes = absurd (omega arith)
entries_written n k e (r ∷ []) m p t rule bytes = absurd (omega arith)
entries_written n k e (r ∷ g ∷ []) m p t rule bytes = absurd (omega arith)
entries_written zero k e (r ∷ g ∷ b ∷ x ∷ l) m p t rule bytes = absurd (omega arith)
entries_written zero k e (r ∷ g ∷ b ∷ []) m p t rule bytes =
    let last : k ≡ 255 = omega arith in
    rw last (entry_written p t rule bytes 255 r g b [] ∙ ap (also (0 ∷ 0 ∷ 0 ∷ [])) (session_nil _ _))
entries_written (suc n) k e (r ∷ g ∷ b ∷ l) m p t rule bytes =
    let c = sixes (colour r g b) in
    let q = with_colours p c in
    let q_ruled : Ruled q = record { phase = rule.phase; red = six_small r; green = six_small g; blue = six_small b } in
    let thrice : 3 * suc (suc n) ≡ suc (suc (suc (3 * suc n))) = omega arith in
    let here : k % 256 ≡ k = omega arith in
    let next : (k + 1) % 256 ≡ suc k % 256 = omega arith in
    let left : Colour → List ℕ → Session = λ last u.
    record { answers = replicate (3 * suc (suc n)) (done_with 0); state = addressed (with_colours p last) 0; table = u } in
    rw here (entry_written p t rule bytes k r g b (map (write 1) l)
    ∙ ap (also (0 ∷ 0 ∷ 0 ∷ []))
    (ap (λ (i : ℕ). session (map (write 1) l) (addressed q i) (store t k c)) next
    ∙ entries_written n (suc k) (omega (arith, e)) l (omega (arith, m)) q (store t k c) q_ruled (store_length t k c ∙ bytes))
    ∙ rw thrice refl
    ∙ ap₂ left (sym (gives_later r g b l n)) (store_sets t k c (map six l)))
