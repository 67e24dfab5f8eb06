-- The state there and back: what C hands over and is lawful comes back as it was, and what is handed to C is lawful and is taken back as the
-- state it was. Assumes nothing.
use Rattle.std.specs.Prelude.{ℕ, ◌≤◌, ◌≡◌, refl, Bool, true, false, not, ◌&&◌, ◌||◌, cond, eqb, leb}
use Rattle.std.proofs.Common.{sym, ap, ap₂, ◌∙◌, arith, eq-eqb, eqb-true, leb-true}
use Rattle.std.proofs.Math.Bool.{and-false}
use Rattle.std.proofs.lemmas.Bool.{eqb-false}
use Rattle.numbers.specs.declared.Refusal.{Refusal}
use Rattle.numbers.specs.declared.Refusal.TheVariants.{StateExcluded}
use Rattle.numbers.specs.Refusal.{number_of, given_back, left_by}
use Rattle.numbers.specs.RefusalLaws.{number_not_zero}
use Rattle.numbers.specs.Between.{both}
use Rattle.words.specs.Bit.{digit}
use Rattle.words.specs.BitLaws.{yes_or_no, digit_yes, digit_small}
use Rattle.refusals.specs.Refusal.{partition_ok}
use Rattle.vram.specs.declared.Vram.{Vram}
use Rattle.std.specs.Prelude.{Result}
use Rattle.vram.specs.declared.Waiting.{Waiting}
use Rattle.std.specs.Prelude.Result.{Ok, Err}
use Rattle.vram.specs.declared.Waiting.TheVariants.{None, Tap}
use Rattle.vram.specs.State.{stop_length, stop_of}
use Rattle.vram.specs.StopLaws.{stop_length_of, length_stop, length_ok}
use Rattle.registers.specs.declared.Registers.{Registers}
use Rattle.registers.specs.State.{lawful, taken, handed_by, handed, taking}

pub handed_taken : (s : Registers) → lawful s ≡ true → handed (taken s) ≡ s
unfolding lawful taken handed
handed_taken s e = go (eqb s.waiting 0) refl
  where
    flags : (leb s.persistent 1 ≡ true) × (leb s.loaded 1 ≡ true) × (leb s.waiting 1 ≡ true)
        × ((eqb s.waiting 1 || eqb s.tap 0) ≡ true) × (partition_ok s.stop ≡ true)
    flags =
        let yes = (leb s.persistent 1 && leb s.loaded 1) && leb s.waiting 1 in
        let z = both (yes && (eqb s.waiting 1 || eqb s.tap 0)) (partition_ok s.stop) e in
        let a = both yes (eqb s.waiting 1 || eqb s.tap 0) z.0 in
        let b = both (leb s.persistent 1 && leb s.loaded 1) (leb s.waiting 1) a.0 in
        let c = both (leb s.persistent 1) (leb s.loaded 1) b.0 in
        (c.0, c.1, b.1, a.1, z.1)

    registers : ℕ → ℕ → ℕ → ℕ → Registers
    registers persistent loaded waiting tap =
        record { colour = s.colour; mask = s.mask; persistent = persistent; loaded = loaded; pointer = s.pointer; waiting = waiting; tap = tap; stop = s.stop }

    last : (u : Bool) → eqb s.waiting 1 ≡ u → s.waiting ≡ 0 → (u || eqb s.tap 0) ≡ true → s.tap ≡ 0
    last true p z q = let k : s.waiting ≡ 1 = eqb-true s.waiting 1 p in absurd (omega arith)
    last false p z q = eqb-true s.tap 0 q

    p : digit (not (eqb s.persistent 0)) ≡ s.persistent
    p = yes_or_no s.persistent (leb-true s.persistent 1 flags.0)

    l : digit (not (eqb s.loaded 0)) ≡ s.loaded
    l = yes_or_no s.loaded (leb-true s.loaded 1 flags.1)

    n : stop_length (stop_of s.stop) ≡ s.stop
    n = stop_length_of s.stop flags.4

    go : (t : Bool) → eqb s.waiting 0 ≡ t → handed_by (cond t None (Tap s.tap)) (taken s) ≡ s
    go true q =
        let z : s.waiting ≡ 0 = eqb-true s.waiting 0 q in
        rw (p, l, n) (ap₂ (registers s.persistent s.loaded) (sym z) (sym (last (eqb s.waiting 1) refl z flags.3)))
    go false q =
        let k = eqb-false s.waiting 0 q in
        let h : s.waiting ≤ 1 = leb-true s.waiting 1 flags.2 in
        let z : 1 ≡ s.waiting = omega arith in
        rw (p, l, n) (ap (λ (w : ℕ). registers s.persistent s.loaded w s.tap) z)

pub taken_handed : (v : Vram) → taken (handed v) ≡ v
unfolding taken handed
taken_handed v = go v.waiting
  where
    awaiting : Waiting → Vram
    awaiting w =
        record { colour = v.colour; mask = v.mask; persistent = v.persistent; loaded = v.loaded; pointer = v.pointer; waiting = w; stop = v.stop }

    go : (w : Waiting) → taken (handed_by w v) ≡ awaiting w
    go None = rw (digit_yes v.persistent, digit_yes v.loaded, length_stop v.stop)
    go (Tap tap) = rw (digit_yes v.persistent, digit_yes v.loaded, length_stop v.stop)

pub handed_lawful : (v : Vram) → lawful (handed v) ≡ true
unfolding lawful handed
handed_lawful v = go v.waiting
  where
    go : (w : Waiting) → lawful (handed_by w v) ≡ true
    go None = rw (digit_small v.persistent, digit_small v.loaded) (length_ok v.stop)
    go (Tap tap) = rw (digit_small v.persistent, digit_small v.loaded) (length_ok v.stop)

-- ---- the state taken from C, or 1

abbrev took : Registers → Result Vram Refusal
took s = taking s (λ v. Ok v) (Err StateExcluded)

pub taken_ok : (s : Registers) (v : Vram) → Ok v ≡ took s → (lawful s ≡ true) × (v ≡ taken s)
taken_ok s v e = go (lawful s) refl e
  where
    go : (t : Bool) → lawful s ≡ t → Ok v ≡ cond t (Ok (taken s)) (Err StateExcluded) → (lawful s ≡ true) × (v ≡ taken s)
    go true q f = (q, ap (left_by v) f)
    go false q f = absurd (omega (arith, ap given_back f))

pub taken_err : (s : Registers) (refusal : Refusal) → Err refusal ≡ took s → (lawful s ≡ false) × (number_of refusal ≡ 1)
taken_err s refusal e = go (lawful s) refl e
  where
    go : (t : Bool) → lawful s ≡ t → Err refusal ≡ cond t (Ok (taken s)) (Err StateExcluded) → (lawful s ≡ false) × (number_of refusal ≡ 1)
    go true q f = absurd (number_not_zero refusal (ap given_back f))
    go false q f = (q, ap given_back f)

-- ---- a call that takes the state from C

module _ {A : Type 0} (made : Vram → A) (excluded : A) where
  -- the two ways out, by what the code has
  pub taking_excluded : (s : Registers) → lawful s ≡ false → excluded ≡ taking s made excluded
  taking_excluded s h = rw h

  pub taking_done : (s : Registers) → lawful s ≡ true → (v : Vram) → v ≡ taken s → (x : A) → x ≡ made v → x ≡ taking s made excluded
  taking_done s h v e x f = f ∙ ap made e ∙ sym (rw h)

  -- on a state that was handed to C it is the call below, so a session in C is the session below
  pub taking_handed : (v : Vram) → taking (handed v) made excluded ≡ made v
  taking_handed v = rw (handed_lawful v, taken_handed v)

  -- what holds of both ways out holds of the call
  pub taking_either : (P : A → Type 0) (s : Registers) → (lawful s ≡ true → P (made (taken s))) → P excluded → P (taking s made excluded)
  taking_either P s f g = go (lawful s) refl
    where
      go : (t : Bool) → lawful s ≡ t → P (cond t (made (taken s)) excluded)
      go true e = f e
      go false e = g

-- two calls that make the same of every state are the same call
pub taking_same : {A : Type 0} (made other : Vram → A) (excluded : A) (s : Registers) → ((v : Vram) → made v ≡ other v)
    → taking s made excluded ≡ taking s other excluded
taking_same made other excluded s h = ap (λ x. cond (lawful s) x excluded) (h (taken s))

-- what holds of two calls on one state, of both where they are done and of both where the state is excluded, holds of them
pub taking_both : {A : Type 0} (P : A → A → Type 0) (s : Registers) (made other : Vram → A) (x y : A)
    → P (made (taken s)) (other (taken s)) → P x y → P (taking s made x) (taking s other y)
taking_both P s made other x y f g = go (lawful s)
  where
    go : (t : Bool) → P (cond t (made (taken s)) x) (cond t (other (taken s)) y)
    go true = f
    go false = g

-- ---- persistence: a state that is not persistent is handed to C with 0, and taken from 0

pub handed_plain : (v : Vram) → v.persistent ≡ false → (handed v).persistent ≡ 0
unfolding handed
handed_plain v e = go v.waiting ∙ ap digit e
  where
    go : (w : Waiting) → (handed_by w v).persistent ≡ digit v.persistent
    go None = refl
    go (Tap tap) = refl

taken_plain : (s : Registers) → s.persistent ≡ 0 → (taken s).persistent ≡ false
unfolding taken
taken_plain s e = rw (eq-eqb s.persistent 0 e)

-- so a call makes no 1 of 0 that makes no mask persistent below, and where no `Vram` can be so hands the state back
pub taking_plain : {A : Type 0} (made : Vram → A) (excluded : A) (state : A → Registers) (s : Registers) → s.persistent ≡ 0
    → ((v : Vram) → v.persistent ≡ false → (state (made v)).persistent ≡ 0) → (state excluded).persistent ≡ 0
    → (state (taking s made excluded)).persistent ≡ 0
taking_plain made excluded state s e f g = taking_either made excluded (λ x. (state x).persistent ≡ 0) s (λ h. f (taken s) (taken_plain s e)) g

-- ---- a stored length that is not one of the four is no `Vram`'s

pub other_length : (s : Registers) → partition_ok s.stop ≡ false → lawful s ≡ false
unfolding lawful
other_length s h = rw h (and-false (((leb s.persistent 1 && leb s.loaded 1) && leb s.waiting 1) && (eqb s.waiting 1 || eqb s.tap 0)))
