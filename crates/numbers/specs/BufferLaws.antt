-- Laws of bytes stored into a buffer, one part after another. Assumes nothing.
use Rattle.std.specs.Prelude.{◌≡◌, refl, List, [], ◌∷◌, ◌++◌, ℕ, suc, ◌+◌, ◌-◌, ◌≤◌, ◌<◌, length, set, take, drop}
use Rattle.std.proofs.Common.{sym, ap, ◌∙◌, append-nil, append_assoc, arith, add-zero, add-suc, add-one, length-append, length-drop, drop_of_length-le, take_all, drop-drop}
use Rattle.std.proofs.lemmas.List.Edits.{sets, sets-eq}
use Rattle.std.proofs.lemmas.List.{set_comm}
use Rattle.std.proofs.Math.Seq.{take-append_seam}
use borrow.Rule.Slice.PartMut.{put_mid}
use Rattle.numbers.specs.Buffer.{over}

-- stores one after the other
pub sets_append : (a b t : List ℕ) (at : ℕ) → sets (sets t at a) (at + length a) b ≡ sets t at (a ++ b)
sets_append [] b t at = ap (λ (n : ℕ). sets t n b) (add-zero at)
sets_append (x ∷ a) b t at =
    let e : at + suc (length a) ≡ suc at + length a = omega arith in
    ap (λ (n : ℕ). sets (sets (set t at x) (suc at) a) n b) e ∙ sets_append a b (set t at x) (suc at)

-- stores by places at, at + 1, at + 2 and so on, as straight-line code has them
abbrev pub stores : List ℕ → ℕ → ℕ → List ℕ → List ℕ
stores t at k [] = t
stores t at k (v ∷ vs) = stores (set t (at + k) v) at (suc k) vs

stores_from : (vs t : List ℕ) (at k : ℕ) → stores t at k vs ≡ sets t (at + k) vs
stores_from [] t at k = refl
stores_from (v ∷ vs) t at k =
    stores_from vs (set t (at + k) v) at (suc k) ∙ ap (λ (n : ℕ). sets (set t (at + k) v) n vs) (add-suc at k)

pub stores_sets : (v : ℕ) (t vs : List ℕ) (at : ℕ) → stores (set t at v) at 1 vs ≡ sets t at (v ∷ vs)
stores_sets v t vs at = stores_from vs (set t at v) at 1 ∙ ap (λ (n : ℕ). sets (set t at v) n vs) (add-one at)

-- a store before others is one after them
set_sets : (b t : List ℕ) (i x at : ℕ) → i < at → set (sets t at b) i x ≡ sets (set t i x) at b
set_sets [] t i x at h = refl
set_sets (y ∷ b) t i x at h =
    set_sets b (set t at y) i x (suc at) (omega arith)
    ∙ ap (λ (l : List ℕ). sets l (suc at) b) (set_comm t at i y x (λ e. omega arith))

-- stores into parts that lie apart, the later part first
pub sets_apart : (a b t : List ℕ) (i at : ℕ) → i + length a ≤ at → sets (sets t at b) i a ≡ sets (sets t i a) at b
sets_apart [] b t i at h = refl
sets_apart (x ∷ a) b t i at h =
    ap (λ (l : List ℕ). sets l (suc i) a) (set_sets b t i x at (omega arith)) ∙ sets_apart a b (set t i x) (suc i) at (omega arith)

module _ (bytes out : List ℕ) where
  -- stores from the start on
  pub over_sets : length bytes ≤ length out → sets out 0 bytes ≡ over bytes out
  over_sets h =
      let e : 0 + length bytes ≡ length bytes = omega arith in
      sets-eq bytes out 0 (omega arith) ∙ ap (λ (n : ℕ). bytes ++ drop n out) e

  pub over_length : length bytes ≤ length out → length (over bytes out) ≡ length out
  over_length h = length-append bytes (drop (length bytes) out) ∙ simp length-drop (omega arith)

  -- what was written can be taken off again
  pub take_over : take (length bytes) (over bytes out) ≡ bytes
  take_over = take-append_seam bytes (drop (length bytes) out)

-- ---- a part that runs to the end, and the whole when it is back
pub tail_part : (l : List ℕ) (at : ℕ) → take (length l - at) (drop at l) ≡ drop at l
tail_part l at = take_all (length l - at) (drop at l) (rw length-drop (omega arith))

pub tail_length : (l : List ℕ) (at : ℕ) → length (take (length l - at) (drop at l)) ≡ length l - at
tail_length l at = ap length (tail_part l at) ∙ (simp length-drop (omega arith))

pub tail_back : (l part : List ℕ) (at : ℕ) → at ≤ length l → put_mid at (length l - at) l part ≡ take at l ++ part
tail_back l part at h =
    let e : drop (length l - at) (drop at l) ≡ [] = drop_of_length-le (drop at l) {i = length l - at} (rw length-drop (omega arith)) in
    ap (λ (x : List ℕ). take at l ++ (part ++ x)) e ∙ ap (λ (x : List ℕ). take at l ++ x) (append-nil part)

-- bytes stored from the part's start on
pub tail_stored : (l part bytes : List ℕ) (at : ℕ) → at + length bytes ≤ length l → part ≡ over bytes (take (length l - at) (drop at l))
    → put_mid at (length l - at) l part ≡ sets l at bytes
tail_stored l part bytes at h e =
    tail_back l part at (omega arith)
    ∙ ap (λ (x : List ℕ). take at l ++ x)
    (e ∙ ap (over bytes) (tail_part l at) ∙ ap (λ (x : List ℕ). bytes ++ x) (drop-drop (length bytes) at l))
    ∙ sym (sets-eq bytes l at h ∙ append_assoc (take at l) bytes (drop (at + length bytes) l))
