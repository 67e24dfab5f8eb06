-- The high byte of a word, which holds the status mark, depends only on high bytes: after a cycle, by any engine that keeps twins, and after
-- clocks. Assumes nothing.
use Rattle.std.specs.Prelude.{◌≡◌, ℕ, zero, suc, ◌+◌, ◌*◌, ◌<◌, Bool, true, false, cond, List, [], ◌∷◌, map, length, ◌==◌, slice_index, slice_set}
use Rattle.std.proofs.Math.Path.{refl}
use Rattle.std.proofs.Common.{sym, ap, ap₂, ◌∙◌}
use Rattle.std.proofs.Math.ListN.{get_or-map}
use Rattle.numbers.specs.Refuse.{leaves}
use Rattle.words.specs.Word.{merged, covers, high}
use Rattle.words.specs.WordLaws.{merged_high}
use Rattle.vram.specs.declared.Vram.{Vram}
use Rattle.vram.specs.declared.Cycle.{Cycle}
use Rattle.vram.specs.ListLaws.{map_set, map_length, map_at, map_ext}
use Rattle.vram.specs.Memory.{put, puts, copied}
use Rattle.vram.specs.MemoryLaws.{copied_map}
use Rattle.vram.specs.Board.{Board, effect}
use Rattle.vram.specs.Writes.{base, writes}
use Rattle.vram.proofs.Sets.{sets, effect_is}
use Rattle.vram.specs.Refusal.{word_read_refusal}
use Rattle.vram.specs.Step.{number, Engine, step_by, run_by}
use Rattle.vram.specs.Serial.{clock_in, clocked_words_in, length_of, clocked_words}
use Rattle.vram.specs.Calls.{word_read_call, clock_refusal, clock_call}
use Rattle.vram.specs.High.{Agree, Twins, KeepsTwins}

-- ---- words that agree in every high byte

module _ {l m : List ℕ} where
  pub agree_length : Agree l m → length l ≡ length m
  agree_length e = map_length high l m e.same

  pub agree_at : Agree l m → (i : ℕ) → high (slice_index l i) ≡ high (slice_index m i)
  agree_at e i = map_at high l m i 0 e.same

  -- and back
  pub agree_from : length l ≡ length m → ((i : ℕ) → i < length l → high (slice_index l i) ≡ high (slice_index m i)) → Agree l m
  agree_from h e = record { same = map_ext high 0 l m h e }

pub put_agree : {l m : List ℕ} (at new : ℕ) (w : ℕ → Bool) → Agree l m → Agree (put l at new w) (put m at new w)
unfolding put
put_agree {l} {m} at new w e =
    record {
      same =
          map_set high l at (merged (slice_index l at) new w)
          ∙ ap₂ (λ (t : List ℕ) (v : ℕ). slice_set t at v) e.same (merged_high (slice_index l at) (slice_index m at) new new w (agree_at e at) refl)
          ∙ sym (map_set high m at (merged (slice_index m at) new w));
    }

pub puts_agree : {l m : List ℕ} (base new : ℕ) (w : ℕ → ℕ → Bool) (k : ℕ) → Agree l m → Agree (puts l base new w k) (puts m base new w k)
unfolding puts
puts_agree base new w zero e = e
puts_agree base new w (suc k) e = put_agree (base + k) new (w k) (puts_agree base new w k e)

pub copied_agree : {l m r q : List ℕ} (from to n : ℕ) → Agree l m → Agree r q → Agree (copied l from r to n) (copied m from q to n)
copied_agree {l} {m} {r} {q} from to n e h =
    record { same = copied_map high l from r to n ∙ ap₂ (λ (a b : List ℕ). copied a from b to n) e.same h.same ∙ sym (copied_map high m from q to n) }

-- the words that k clocks answer
clocked_map : (n k : ℕ) (s : Vram) (r : List ℕ) → map high (clocked_words_in n k s r) ≡ clocked_words_in n k s (map high r)
unfolding clocked_words_in high
clocked_map n zero s r = refl
clocked_map n (suc k) s r = ap₂ (λ (x : ℕ) (t : List ℕ). x ∷ t) (sym (get_or-map high r s.pointer 0)) (clocked_map n k (clock_in n s) r)

pub clocked_agree : (k : ℕ) (s : Vram) {r q : List ℕ} → Agree r q → Agree (clocked_words k s r) (clocked_words k s q)
clocked_agree k s {r} {q} e =
    record { same = clocked_map (length_of s) k s r ∙ ap (clocked_words k s) e.same ∙ sym (clocked_map (length_of s) k s q) }

-- ---- twins: the engine of the rules keeps them, and the numbers given back are equal

pub effect_twins : KeepsTwins effect
effect_twins c a b k = rw (effect_is c a, effect_is c b, k.state)
    (record {
      state = refl;
      memory = puts_agree (base (writes c b.state)) (writes c b.state).pen (writes c b.state).through (writes c b.state).count k.memory;
      serial = copied_agree (sets c b.state).from (sets c b.state).to (sets c b.state).count k.memory k.serial;
    })

pub number_twins : (c : Cycle) {a b : Board} → Twins a b → number c a ≡ number c b
unfolding number
number_twins c {a} {b} k = rw (k.state, agree_length k.memory, agree_length k.serial)

-- refused or not
pub leaves_twins : (n : ℕ) {a b x y : Board} → Twins a b → Twins x y → Twins (leaves n a x) (leaves n b y)
leaves_twins n {a} {b} {x} {y} k made = go (n == 0)
  where
    go : (t : Bool) → Twins (cond t x a) (cond t y b)
    go true = made
    go false = k

-- ---- steps and runs, by any engine that keeps twins

module _ (e : Engine) (keeps : KeepsTwins e) where
  pub step_twins : KeepsTwins (step_by e)
  unfolding step_by
  step_twins c a b k = rw (number_twins c k) (leaves_twins (number c b) k (keeps c a b k))

  pub run_twins : (l : List Cycle) {a b : Board} → Twins a b → Twins (run_by (step_by e) l a) (run_by (step_by e) l b)
  unfolding run_by
  run_twins [] k = k
  run_twins (c ∷ l) {a} {b} k = run_twins l (step_twins c a b k)

-- ---- a word read and a serial clock: the same number and state, and words that agree in the high byte

module _ {l m : List ℕ} (e : Agree l m) where
  pub read_number : (row column strobes : ℕ) → (word_read_call l row column strobes).number ≡ (word_read_call m row column strobes).number
  unfolding word_read_call
  read_number row column strobes = rw (agree_length e)

  pub read_high : (row column strobes : ℕ) → high (word_read_call l row column strobes).word ≡ high (word_read_call m row column strobes).word
  unfolding word_read_call
  read_high row column strobes = rw (agree_length e) (go (word_read_refusal (length m) row column strobes == 0))
    where
      word : List ℕ → ℕ
      word k = merged 0 (slice_index k (512 * row + column)) (covers strobes)

      go : (t : Bool) → high (cond t (word l) 0) ≡ high (cond t (word m) 0)
      go true = merged_high 0 0 (slice_index l (512 * row + column)) (slice_index m (512 * row + column)) (covers strobes) refl (agree_at e (512 * row + column))
      go false = refl

  pub clock_number : (s : Vram) → (clock_call s l).number ≡ (clock_call s m).number
  unfolding clock_call
  clock_number s = rw (agree_length e)

  pub clock_state : (s : Vram) → (clock_call s l).state ≡ (clock_call s m).state
  unfolding clock_call
  clock_state s = rw (agree_length e)

  pub clock_high : (s : Vram) → high (clock_call s l).word ≡ high (clock_call s m).word
  unfolding clock_call
  clock_high s = rw (agree_length e) (go (clock_refusal s (length m) == 0))
    where
      go : (t : Bool) → high (cond t (slice_index l s.pointer) 0) ≡ high (cond t (slice_index m s.pointer) 0)
      go true = agree_at e s.pointer
      go false = refl
