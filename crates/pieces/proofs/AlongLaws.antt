-- The way through a piece, by what the code has: field after field, then byte after byte. Assumes nothing.
use Rattle.std.specs.Prelude.{◌≡◌, refl, true, false, ◌&&◌, List, [], ◌≢◌, ℕ, ◌+◌, ◌≤◌, ◌<◌, eqb, length, get_or, take, drop}
use Rattle.std.proofs.Common.{sym, ap, ap₂, ◌∙◌, arith, add-one, length-drop, drop_of_length-le, drop-cons, drop-drop, eqb-true}
use Rattle.numbers.specs.Between.{both}
use Rattle.vram.specs.Board.{Board}
use Rattle.vram.specs.Step.{given_of}
use Rattle.std.specs.Prelude.{Option}
use Rattle.list.specs.Waits.{waits}
use Rattle.pieces.specs.declared.Pieces.{Pieces}
use Rattle.pieces.specs.Line.{Line, line, Port, port, limit, feed, piece}
use Rattle.pieces.proofs.LineLaws.{refused_stays}
use Rattle.pieces.proofs.KeepLaws.{feed_possible, feed_given}
use Rattle.pieces.specs.Pieces.{pack, packed, unpack, possible}
use Rattle.pieces.specs.PackLaws.{Sound, sound_pack, unpack_pack}
use Rattle.pieces.proofs.TurnLaws.{meets_stay, meets_turn, meets_possible}
use Rattle.pieces.specs.Turns.{standing, Meets, Along}

-- a line that was come to
pub come_along : (p : Pieces) (b : Board) (s : List ℕ) (l : Line) (q : Pieces) (b' c : Board) (n i : ℕ) → possible l ≡ true → given_of c ≡ 0 → i ≤ length s
    → piece (port l c) (drop i s) ≡ piece (port (unpack p) b) s → q ≡ pack l → b' ≡ c → n ≡ i → Along p b s q b' n
come_along p b s l q b' c n i h g m e f k j =
    record {
      sound = rw f (sound_pack l h);
      given = ap given_of k ∙ g;
      inside = omega arith;
      same = rw (f, k, j, unpack_pack l h) e;
    }

-- ---- a field of the part s of the bytes

module _ (t : List ℕ) (i : ℕ) (s : List ℕ) (e : s ≡ drop i t) (u : i ≤ length t) (at : ℕ) (left : Option ℕ) (b : Board) (h : possible (line [] at 0 left) ≡ true)
    (number size : ℕ) (later : Option ℕ) (b' : Board) (m : Meets at s left b number size later b') where
  pub turn_inside : i + size ≤ length t
  turn_inside = omega (arith, m.inside, ap length e, length-drop i t)

  module _ (w : waits s ≡ true) where
    pub stay_possible : possible (line [] at 0 later) ≡ true
    stay_possible = ap (λ (o : Option ℕ). possible (line [] at 0 o)) (m.waiting w).2 ∙ h

    pub stay_same : piece (port (line [] at 0 later) b') (drop i t) ≡ piece (port (line [] at 0 left) b) (drop i t)
    stay_same = meets_stay at s left b number size later b' m w i t (sym e) ∙ ap (piece (port (line [] at 0 left) b)) e

  module _ (w : waits s ≡ false) (l : at + 13 ≤ limit) where
    pub turn_possible : possible (standing number (at + size) later) ≡ true
    turn_possible = meets_possible at s left b number size later b' m l h

    pub turn_same : piece (port (standing number (at + size) later) b') (drop (i + size) t) ≡ piece (port (line [] at 0 left) b) (drop i t)
    turn_same =
        ap (piece (port (standing number (at + size) later) b')) (sym (drop-drop size i t) ∙ ap (drop size) (sym e))
        ∙ meets_turn at s left b number size later b' m l w
        ∙ ap (piece (port (line [] at 0 left) b)) e

    -- it takes no bytes
    module _ (z : size ≡ 0) where
      pub stop_possible : possible (standing number at later) ≡ true
      stop_possible = let e : at ≡ at + size = omega (arith, z) in ap (λ (n : ℕ). possible (standing number n later)) e ∙ turn_possible

      pub stop_same : piece (port (standing number at later) b') (drop i t) ≡ piece (port (line [] at 0 left) b) (drop i t)
      stop_same =
          let e : at ≡ at + size = omega (arith, z) in
          let f : i ≡ i + size = omega (arith, z) in
          ap₂ (λ (n j : ℕ). piece (port (standing number n later) b') (drop j t)) e f ∙ turn_same

    module _ (z : number ≡ 0) where
      pub turn_some : 0 < size
      turn_some = let r = (m.run w z).1 in omega arith

      -- it has been run: nothing is held, and the next field begins
      pub turn_again : (possible (line [] (at + size) 0 later) ≡ true)
          × (piece (port (line [] (at + size) 0 later) b') (drop (i + size) t) ≡ piece (port (line [] at 0 left) b) (drop i t))
      turn_again = (
        ap (λ (n : ℕ). possible (standing n (at + size) later)) (sym z) ∙ turn_possible,
        ap (λ (n : ℕ). piece (port (standing n (at + size) later) b') (drop (i + size) t)) (sym z) ∙ turn_same,
      )

-- ---- the ways through a piece

-- nothing held or refused
module _ (p : Pieces) (r : (eqb p.number 0 && eqb p.count 0) ≡ true) where
  ready : unpack p ≡ line [] p.start 0 p.left
  ready =
      let h = both (eqb p.number 0) (eqb p.count 0) r in
      ap₂ (λ (n i : ℕ). line (take i p.held) p.start n p.left) (eqb-true p.number 0 h.0) (eqb-true p.count 0 h.1)

  pub ready_possible : Sound p → possible (line [] p.start 0 p.left) ≡ true
  ready_possible k = ap possible (sym ready) ∙ k.line

  pub ready_along : (b : Board) (s : List ℕ) (q : Pieces) (b' : Board) (n : ℕ) → Along (packed [] p.start 0 p.left) b s q b' n → Along p b s q b' n
  ready_along b s q b' n a =
      record {
        sound = a.sound;
        given = a.given;
        inside = a.inside;
        same = a.same ∙ ap (λ (l : Line). piece (port l b) s) (sym ready);
      }

pub along_none : (p : Pieces) (b : Board) (s : List ℕ) → Sound p → given_of b ≡ 0 → Along p b s p b 0
along_none p b s k g = record { sound = k; given = g; inside = omega arith; same = refl }

module _ (p : Pieces) (b : Board) (s : List ℕ) (q : Pieces) (b' : Board) (n : ℕ) (a : Along p b s q b' n) where
  -- after a refusal the other bytes do nothing
  pub along_all : q.number ≢ 0 → Along p b s q b' (length s)
  along_all h =
      let l : length s ≤ length s = omega arith in
      let e : drop (length s) s ≡ [] = drop_of_length-le s l in
      record {
        sound = a.sound;
        given = a.given;
        inside = omega arith;
        same =
            ap (piece (port (unpack q) b')) e
            ∙ sym (refused_stays (drop n s) (port (unpack q) b') h)
            ∙ a.same;
      }

  -- a byte more
  pub along_byte : n < length s → (r : Pieces) (c : Board)
      → (let o = feed (port (unpack q) b') (get_or s n 0) in (r ≡ pack o.line) × (c ≡ o.on)) → Along p b s r c (n + 1)
  along_byte l r c f =
      let x = get_or s n 0 in
      let o = feed (port (unpack q) b') x in
      let h = feed_possible (port (unpack q) b') x a.sound.line in
      come_along p b s o.line r c o.on (n + 1) (n + 1) h (feed_given (port (unpack q) b') x a.given) (omega arith)
      (sym (ap (piece (port (unpack q) b')) (drop-cons s n 0 l) ∙ ap (λ (i : ℕ). piece o (drop i s)) (sym (add-one n))) ∙ a.same)
      f.0 f.1 refl

-- one turn after another: s is the part of the bytes from i on
pub along_on : (p : Pieces) (b : Board) (t : List ℕ) (q : Pieces) (b' : Board) (i : ℕ) → Along p b t q b' i → (s : List ℕ) → s ≡ drop i t
    → (r : Pieces) (c : Board) (n : ℕ) → Along q b' s r c n → Along p b t r c (i + n)
along_on p b t q b' i a s e r c n f =
    record {
      sound = f.sound;
      given = f.given;
      inside = omega (arith, f.inside, a.inside, ap length e, length-drop i t);
      same =
          ap (piece (port (unpack r) c)) (sym (drop-drop n i t) ∙ ap (drop n) (sym e))
          ∙ f.same
          ∙ ap (piece (port (unpack q) b')) e
          ∙ a.same;
    }

-- all the bytes are used up
pub along_end : (p : Pieces) (b : Board) (s : List ℕ) (q : Pieces) (b' : Board) (n : ℕ) → Along p b s q b' n → length s ≤ n
    → (let o = piece (port (unpack p) b) s in (q ≡ pack o.line) × (b' ≡ o.on))
along_end p b s q b' n a l =
    let e : port (unpack q) b' ≡ piece (port (unpack p) b) s = ap (piece (port (unpack q) b')) (sym (drop_of_length-le s l)) ∙ a.same in
    (sym a.sound.whole ∙ ap (λ (o : Port). pack o.line) e, ap (λ (o : Port). o.on) e)
