-- Laws of the line as the code holds it, and of its rule. Assumes nothing.
use Rattle.std.specs.Prelude.{◌≡◌, refl, Bool, ◌&&◌, ◌||◌, List, [], ◌∷◌, ◌++◌, ◌≢◌, ℕ, zero, suc, ◌+◌, ◌-◌, ◌≤◌, ◌<◌, get_or, take, drop, set}
use Rattle.std.proofs.Math.Path.{sym}
use Rattle.std.proofs.Common.{ap, ◌∙◌, arith, true≢false, add-one, drop_of_length-le, drop-cons, eqb-true, eq-eqb, ne_eqb, leb-true, leb-false, le-leb}
use Rattle.std.proofs.Math.Bool.{true, false}
use Rattle.std.proofs.Math.Dec.{eqb, leb}
use Rattle.std.proofs.Math.ListN.{length, length-take}
use borrow.Author.Tests.{eqb-false, lt-leb}
use Rattle.numbers.specs.Between.{both}
use Rattle.refusals.specs.Refusal.{refusing}
use Rattle.std.specs.Prelude.{Option}
use Rattle.list.specs.Waits.{waits}
use Rattle.list.proofs.WaitsLaws.{waits_few}
use Rattle.pieces.specs.declared.Pieces.{Pieces}
use Rattle.pieces.specs.Line.{Line, line, limit}
use Rattle.pieces.specs.Pieces.{pad, pack, unpack, all_zero, before, is_none, going, stopped, possible, sound}

-- ---- bytes, then zeros

pub take_pad : (k : ℕ) (s : List ℕ) → length s ≤ k → take (length s) (pad k s) ≡ s
unfolding pad
take_pad zero [] h = refl
take_pad zero (x ∷ s) h = absurd (omega arith)
take_pad (suc k) [] h = refl
take_pad (suc k) (x ∷ s) h = ap (λ (t : List ℕ). x ∷ t) (take_pad k s (omega arith))

pub set_pad : (k : ℕ) (s : List ℕ) (x : ℕ) → length s < k → set (pad k s) (length s) x ≡ pad k (s ++ x ∷ [])
unfolding pad
set_pad zero s x h = absurd (omega arith)
set_pad (suc k) [] x h = refl
set_pad (suc k) (y ∷ s) x h = ap (λ (t : List ℕ). y ∷ t) (set_pad k s x (omega arith))

drop_pad : (k : ℕ) (s : List ℕ) → length s ≤ k → all_zero (drop (length s) (pad k s)) ≡ true
unfolding pad all_zero
drop_pad zero [] h = refl
drop_pad zero (x ∷ s) h = absurd (omega arith)
drop_pad (suc k) [] h = drop_pad k [] (omega arith)
drop_pad (suc k) (x ∷ s) h = drop_pad k s (omega arith)

zeros_pad : (s : List ℕ) → all_zero s ≡ true → pad (length s) [] ≡ s
unfolding all_zero pad
zeros_pad [] h = refl
zeros_pad (x ∷ s) h =
    let b = both (eqb x 0) (all_zero s) h in
    let e : x ≡ 0 = eqb-true x 0 b.0 in
    rw e (ap (λ (t : List ℕ). 0 ∷ t) (zeros_pad s b.1))

-- bytes with zeros from n on are the first n, padded
pad_take : (n : ℕ) (s : List ℕ) → all_zero (drop n s) ≡ true → pad (length s) (take n s) ≡ s
unfolding pad
pad_take zero s h = zeros_pad s h
pad_take (suc n) [] h = refl
pad_take (suc n) (x ∷ s) h = ap (λ (t : List ℕ). x ∷ t) (pad_take n s h)

-- one turn of the search for another byte than 0
pub zero_end : (s : List ℕ) (i : ℕ) → length s ≤ i → all_zero (drop i s) ≡ true
unfolding all_zero
zero_end s i h = rw (drop_of_length-le s h)

module _ (s : List ℕ) (i : ℕ) (h : i < length s) where
  pub zero_good : get_or s i 0 ≡ 0 → all_zero (drop (i + 1) s) ≡ all_zero (drop i s)
  unfolding all_zero
  zero_good e = rw (drop-cons s i 0 h, eq-eqb (get_or s i 0) 0 e, add-one)

  pub zero_bad : get_or s i 0 ≢ 0 → all_zero (drop i s) ≡ false
  unfolding all_zero
  zero_bad e = rw (drop-cons s i 0 h, ne_eqb (get_or s i 0) 0 e)

-- ---- a line that meets the rule, by what it says

pub record Going (l : Line) : Type 0 where
  pub waiting : waits l.held ≡ true
  pub fits : l.start + length l.held ≤ limit
  pub earlier : before l.left l.start ≡ true

pub record Stopped (l : Line) : Type 0 where
  pub named : (eqb l.number 4 || refusing l.number) ≡ true
  pub empty : length l.held ≡ 0
  pub closed : is_none l.left ≡ true

module _ (l : Line) where
  module _ (z : l.number ≡ 0) where
    pub possible_going : possible l ≡ true → Going l
    unfolding possible going
    possible_going h =
        let e : going l ≡ true = rw (eq-eqb l.number 0 z) at h in
        let a = both (waits l.held && leb (l.start + length l.held) limit) (before l.left l.start) e in
        let b = both (waits l.held) (leb (l.start + length l.held) limit) a.0 in
        record { waiting = b.0; fits = leb-true _ _ b.1; earlier = a.1 }

    pub going_possible : Going l → possible l ≡ true
    unfolding possible going
    going_possible g = rw (eq-eqb l.number 0 z, g.waiting, le-leb (l.start + length l.held) limit g.fits, g.earlier)

  module _ (n : l.number ≢ 0) where
    pub possible_stopped : possible l ≡ true → Stopped l
    unfolding possible stopped
    possible_stopped h =
        let e : stopped l ≡ true = rw (ne_eqb l.number 0 n) at h in
        let a = both ((eqb l.number 4 || refusing l.number) && eqb (length l.held) 0) (is_none l.left) e in
        let b = both (eqb l.number 4 || refusing l.number) (eqb (length l.held) 0) a.0 in
        record { named = b.0; empty = eqb-true _ _ b.1; closed = a.1 }

    pub stopped_possible : Stopped l → possible l ≡ true
    unfolding possible stopped
    stopped_possible g = rw (ne_eqb l.number 0 n, g.named, eq-eqb (length l.held) 0 g.empty, g.closed)

-- a number that no field gets is 0
pub unnamed_none : (l : Line) → possible l ≡ true → (eqb l.number 4 || refusing l.number) ≡ false → l.number ≡ 0
unnamed_none l h e = go (eqb l.number 0) refl
  where
    go : (t : Bool) → eqb l.number 0 ≡ t → l.number ≡ 0
    go true q = eqb-true _ _ q
    go false q = absurd (true≢false (sym (possible_stopped l (eqb-false _ _ q) h).named ∙ e))

-- more than twelve bytes are not held: n of thirteen
pub going_over : (h : List ℕ) (n start : ℕ) (left : Option ℕ) → length h ≡ 13 → 12 < n → going (line (take n h) start 0 left) ≡ false
unfolding going
going_over h n start left l m = go (waits (take n h)) refl
  where
    go : (t : Bool) → waits (take n h) ≡ t → ((t && leb (start + length (take n h)) limit) && before left start) ≡ false
    go true e = absurd (omega (arith, waits_few (take n h) e, length-take n h))
    go false e = refl

pub going_is : (h : List ℕ) (n start : ℕ) (left : Option ℕ) → length h ≡ 13 → n ≤ 12 → start ≤ limit
    → going (line (take n h) start 0 left) ≡ ((waits (take n h) && leb n (limit - start)) && before left start)
unfolding going
going_is h n start left l m f = ap (λ (t : Bool). (waits (take n h) && t) && before left start) (same_fits (leb n (limit - start)) refl)
  where
    same_fits : (t : Bool) → leb n (limit - start) ≡ t → leb (start + length (take n h)) limit ≡ t
    same_fits true e = le-leb (start + length (take n h)) limit (omega (arith, leb-true n (limit - start) e, length-take n h))
    same_fits false e = lt-leb (start + length (take n h)) limit (omega (arith, leb-false n (limit - start) e, length-take n h))

-- at most twelve bytes are held
possible_few : (l : Line) → possible l ≡ true → length l.held < 13
possible_few l h = go (eqb l.number 0) refl
  where
    go : (t : Bool) → eqb l.number 0 ≡ t → length l.held < 13
    go true e = waits_few l.held (possible_going l (eqb-true _ _ e) h).waiting
    go false e = let s = possible_stopped l (eqb-false _ _ e) h in let z = s.empty in omega arith

-- ---- packed and unpacked

pub record Sound (p : Pieces) : Type 0 where
  pub whole : pack (unpack p) ≡ p
  pub line : possible (unpack p) ≡ true

module _ (l : Line) (h : possible l ≡ true) where
  few : length l.held ≤ 13
  few = let f = possible_few l h in omega arith

  pub unpack_pack : unpack (pack l) ≡ l
  unpack_pack = rw (take_pad 13 l.held few)

  pub sound_pack : Sound (pack l)
  sound_pack = record { whole = ap pack unpack_pack; line = ap possible unpack_pack ∙ h }

  -- and the test lets it through
  pub made_sound : sound (pack l) ≡ true
  unfolding sound
  made_sound = rw (drop_pad 13 l.held few) (ap possible unpack_pack ∙ h)

-- what the test lets through meets the rule
pub sound_possible : (p : Pieces) → sound p ≡ true → possible (unpack p) ≡ true
unfolding sound
sound_possible p h = (both (all_zero (drop p.count p.held)) (possible (unpack p)) h).1

-- the test is the rule
module _ (p : Pieces) (l : length p.held ≡ 13) (h : sound p ≡ true) where
  parts : (all_zero (drop p.count p.held) ≡ true) × (possible (unpack p) ≡ true)
  unfolding sound
  parts = both (all_zero (drop p.count p.held)) (possible (unpack p)) h

  count_small : (t : Bool) → leb p.count 13 ≡ t → length (take p.count p.held) ≡ p.count
  count_small true e = let f = leb-true p.count 13 e in simp length-take (omega arith)
  count_small false e = absurd (omega (arith, length-take p.count p.held, leb-false p.count 13 e, possible_few (unpack p) parts.1, l))

  pub sound_count : length (take p.count p.held) ≡ p.count
  sound_count = count_small (leb p.count 13) refl

  pub sound_is : Sound p
  sound_is =
      let e : pad 13 (take p.count p.held) ≡ p.held = rw l at (pad_take p.count p.held parts.0) in
      record { whole = rw (e, sound_count); line = parts.1 }

-- ---- the test, by what the code has

module _ (p : Pieces) where
  pub sound_spare : all_zero (drop p.count p.held) ≡ false → sound p ≡ false
  unfolding sound
  sound_spare e = rw e

  module _ (e : all_zero (drop p.count p.held) ≡ true) where
    pub sound_going : p.number ≡ 0 → (t : Bool) → t ≡ going (line (take p.count p.held) p.start 0 p.left) → t ≡ sound p
    unfolding sound possible going
    sound_going z t g = rw (e, eq-eqb p.number 0 z) g

    pub sound_stopped : p.number ≢ 0 → length p.held ≡ 13 → (t : Bool)
        → t ≡ (((eqb p.number 4 || refusing p.number) && eqb p.count 0) && is_none p.left) → t ≡ sound p
    unfolding sound possible stopped
    sound_stopped n l t g = rw (e, ne_eqb p.number 0 n, none (eqb p.count 0) refl) g
      where
        none : (u : Bool) → eqb p.count 0 ≡ u → eqb (length (take p.count p.held)) 0 ≡ eqb p.count 0
        none true q = eq-eqb (length (take p.count p.held)) 0 (omega (arith, eqb-true p.count 0 q, length-take p.count p.held)) ∙ sym q
        none false q = ne_eqb (length (take p.count p.held)) 0 (λ y. eqb-false p.count 0 q (omega (arith, y, length-take p.count p.held))) ∙ sym q
