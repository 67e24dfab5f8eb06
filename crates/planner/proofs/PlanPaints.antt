-- The plan paints: write by write, then the whole list. Assumes nothing.
use Rattle.std.specs.Prelude.{◌≡◌, ◌&&◌, ◌||◌, length, get_or, take}
use Rattle.std.proofs.Math.Path.{refl, ap, ap₂}
use Rattle.std.proofs.Common.{sym, ◌∙◌, subst, ext_get_or, eqb-true, ℕ, zero, suc, ◌+◌, ◌*◌, ◌/◌, ◌%◌, ◌≤◌, ◌<◌, List, [], ◌∷◌, map, arith}
use Rattle.std.proofs.Math.Bool.{Bool, true, false, cond}
use Rattle.std.proofs.Math.Dec.{eqb}
use Rattle.std.proofs.Math.Seq.{take-nil}
use Rattle.std.proofs.lemmas.Bool.{eqb-false}
use Rattle.numbers.specs.Between.{between, both, same_truth, between_in, between_says, between_out}
use Rattle.words.specs.Bit.{bit}
use Rattle.words.specs.Word.{merged, lets}
use Rattle.words.specs.WordLaws.{merged_cong, merged_none, lets_bit}
use Rattle.vram.specs.declared.Vram.{Vram}
use Rattle.vram.specs.declared.Cycle.{Cycle}
use Rattle.vram.specs.Board.{board, allowed}
use Rattle.vram.specs.Refusal.{given}
use Rattle.vram.specs.Kinds.{tag_of}
use Rattle.vram.specs.Step.{given_of, rows_of, number, step, run}
use Rattle.vram.proofs.CaseLaws.{run_none, run_next, number_is, word_accepted, block_accepted, tag_word, tag_block}
use Rattle.vram.proofs.KeptLaws.{only_memory}
use Rattle.vram.proofs.RuleLaws.{step_sized}
use Rattle.vram.proofs.CycleLaws.{word_write_at, block_write_at, allowed_given}
use Rattle.planner.specs.Fill.{Fill, inside, touched, picked, touched_blocks, word_write, columns_of, block_write, by_words}
use Rattle.planner.proofs.FillLaws.{Sound, inside_says, touched_in}
use Rattle.planner.specs.Paint.{painted, Memory}
use Rattle.planner.proofs.PaintLaws.{drawn, drawn_at, drawn_cong, drawn_none, drawn_twice, drawn_memory, map_at_length}

-- ---- the first of some numbers that were picked, and of what is made of each

picked_first : (p : ℕ → Bool) (n at k : ℕ) → (j : ℕ) × (j ≤ n) × (take k (picked p at n) ≡ picked p at j)
unfolding picked
picked_first p zero at k = (zero, omega arith, take-nil k)
picked_first p (suc n) at zero = (zero, omega arith, refl)
picked_first p (suc n) at (suc k) = go (p at) refl (picked_first p n (suc at) k) (picked_first p n (suc at) (suc k))
  where
    go : (t : Bool) → p at ≡ t
        → (j : ℕ) × (j ≤ n) × (take k (picked p (suc at) n) ≡ picked p (suc at) j)
        → (j : ℕ) × (j ≤ n) × (take (suc k) (picked p (suc at) n) ≡ picked p (suc at) j)
        → (j : ℕ) × (j ≤ suc n) × (take (suc k) (cond t (at ∷ picked p (suc at) n) (picked p (suc at) n)) ≡ picked p at j)
    go true e i h = (suc i.0, omega (arith, i.1), rw e (ap (λ (l : List ℕ). at ∷ l) i.2))
    go false e i h = (suc h.0, omega (arith, h.1), rw e h.2)

take_map : {A B : Type 0} (g : A → B) (k : ℕ) (l : List A) → take k (map g l) ≡ map g (take k l)
take_map g zero l = refl
take_map g (suc k) [] = refl
take_map {A} {B} g (suc k) (x ∷ l) = ap (λ (y : List B). g x ∷ y) (take_map g k l)

-- ---- units of the memory, one write for each: words, or blocks. `unit a` is the unit of word a, p picks units, g writes one

module _ (f : Fill) (rows : ℕ) (s : Vram) (r : List ℕ) (unit : ℕ → ℕ) (p : ℕ → Bool) (g : ℕ → Cycle) (limit : ℕ)
    (missed : (a : ℕ) → p (unit a) ≡ false → inside f a ≡ false)
    (one : (x : ℕ) (m : List ℕ) → x < limit → p x ≡ true → Memory rows m → step (g x) (board s m r) ≡ board s (drawn f (λ a. eqb (unit a) x && inside f a) m) r) where
  -- the words of the units from `at` up
  abbrev reach : ℕ → ℕ → ℕ → Bool
  reach at n a = between at (at + n) (unit a) && inside f a

  join : (at n a : ℕ) → ((eqb (unit a) at && inside f a) || reach (suc at) n a) ≡ reach at (suc n) a
  join at n a = go (eqb (unit a) at) refl (inside f a)
    where
      go : (t : Bool) → eqb (unit a) at ≡ t → (i : Bool) → ((t && i) || (between (suc at) (suc at + n) (unit a) && i)) ≡ (between at (at + suc n) (unit a) && i)
      go true e true =
          let z : unit a ≡ at = eqb-true (unit a) at e in
          sym (ap (λ (t : Bool). t && true) (between_in at (at + suc n) (unit a) (omega arith) (omega arith)))
      go true e false = both_false (between (suc at) (suc at + n) (unit a)) (between at (at + suc n) (unit a))
        where
          both_false : (x y : Bool) → (x && false) ≡ (y && false)
          both_false true true = refl
          both_false true false = refl
          both_false false true = refl
          both_false false false = refl
      go false e i =
          let z = eqb-false (unit a) at e in
          ap (λ (t : Bool). t && i)
          (same_truth (between (suc at) (suc at + n) (unit a)) (between at (at + suc n) (unit a))
          (λ q. let b = between_says (suc at) (suc at + n) (unit a) q in between_in at (at + suc n) (unit a) (omega arith) (omega arith))
          (λ q. let b = between_says at (at + suc n) (unit a) q in between_in (suc at) (suc at + n) (unit a) (omega arith) (omega arith)))

  skip : (at n a : ℕ) → p at ≡ false → reach (suc at) n a ≡ reach at (suc n) a
  skip at n a h = sym (ap (λ (t : Bool). t || reach (suc at) n a) (go (eqb (unit a) at) refl)) ∙ join at n a
    where
      go : (t : Bool) → eqb (unit a) at ≡ t → (t && inside f a) ≡ false
      go true e = missed a (ap p (eqb-true (unit a) at e) ∙ h)
      go false e = refl

  pub units : (n at : ℕ) (m : List ℕ) → at + n ≤ limit → Memory rows m → run (map g (picked p at n)) (board s m r) ≡ board s (drawn f (reach at n) m) r
  unfolding picked
  units zero at m h k =
      run_none step (board s m r)
      ∙ ap (λ (l : List ℕ). board s l r)
      (sym (drawn_none f (reach at zero) (λ a. ap (λ (t : Bool). t && inside f a) (between_out at (at + 0) (unit a) (λ b. omega arith))) m))
  units (suc n) at m h k = go (p at) refl (units n (suc at))
    where
      go : (t : Bool) → p at ≡ t
          → ((m : List ℕ) → suc at + n ≤ limit → Memory rows m → run (map g (picked p (suc at) n)) (board s m r) ≡ board s (drawn f (reach (suc at) n) m) r)
          → run (map g (cond t (at ∷ picked p (suc at) n) (picked p (suc at) n))) (board s m r) ≡ board s (drawn f (reach at (suc n)) m) r
      go true e ih =
          let here : ℕ → Bool = λ a. eqb (unit a) at && inside f a in
          run_next step (g at) (map g (picked p (suc at) n)) (board s m r)
          ∙ ap (run (map g (picked p (suc at) n))) (one at m (omega arith) e k)
          ∙ ih (drawn f here m) (omega arith) (drawn_memory f rows here m k)
          ∙ ap (λ (l : List ℕ). board s l r)
          (drawn_twice f here (reach (suc at) n) m ∙ drawn_cong f (λ a. here a || reach (suc at) n a) (reach at (suc n)) (join at n) m)
      go false e ih = ih m (omega arith) k ∙ ap (λ (l : List ℕ). board s l r) (drawn_cong f (reach (suc at) n) (reach at (suc n)) (λ a. skip at n a e) m)

  -- the first k of n writes: those of the units below some j
  pub units_first : (k n : ℕ) (m : List ℕ) → n ≤ limit → Memory rows m
      → (j : ℕ) × (run (take k (map g (picked p 0 n))) (board s m r) ≡ board s (drawn f (reach 0 j) m) r)
  units_first k n m h fits =
      let t = picked_first p n 0 k in (
        t.0,
        ap (λ (l : List Cycle). run l (board s m r)) (take_map g k (picked p 0 n) ∙ ap (map g) t.2)
            ∙ units t.0 0 m (omega (arith, t.1)) fits,
      )

-- ---- one write

module _ (f : Fill) (rows : ℕ) (s : Vram) (r : List ℕ) (g : given s (512 * rows) (length r) ≡ 0) (plain : s.persistent ≡ false) where
  module _ (m : List ℕ) (k : Memory rows m) where
    fine : given_of (board s m r) ≡ 0
    fine = ap (λ (n : ℕ). given s n (length r)) k.size ∙ g

    fitted_rows : rows_of (board s m r) ≡ rows
    fitted_rows = let e = k.size in omega arith

    -- a write that is not refused, known word by word
    wrote : (c : Cycle) → tag_of c < 3 → (p : ℕ → Bool)
        → ((a : ℕ) → a < length m → get_or (step c (board s m r)).memory a 0 ≡ get_or (drawn f p m) a 0) → step c (board s m r) ≡ board s (drawn f p m) r
    wrote c t p e =
        only_memory (board s m r) c t
        ∙ ap (λ (l : List ℕ). board s l r)
        (ext_get_or 0 (step c (board s m r)).memory (drawn f p m) (n ∙ sym (map_at_length (λ a w. cond (p a) (merged w f.colour (bit f.mask)) w) m 0)) (λ a h. e a (subst (λ (x : ℕ). a < x) n h)))
      where
        n : length (step c (board s m r)).memory ≡ length m
        n = (step_sized c (board s m r)).memory

    through : (w : ℕ) → merged w f.colour (allowed s 1 f.mask 3) ≡ merged w f.colour (bit f.mask)
    through w = merged_cong w f.colour (allowed s 1 f.mask 3) (bit f.mask) (λ i h. allowed_given s f.mask i plain h)

    word_one : (x : ℕ) → x < 512 * rows → inside f x ≡ true → step (word_write f x) (board s m r) ≡ board s (drawn f (λ a. eqb a x && inside f a) m) r
    word_one x h i =
        wrote (word_write f x) (subst (λ (n : ℕ). n < 3) (sym (tag_word (x / 512) (x % 512) f.colour 1 f.mask 3)) (omega arith)) (λ a. eqb a x && inside f a)
        (λ a l.
        word_write_at (board s m r) (x / 512) (x % 512) f.colour 1 f.mask 3 accepted a l
        ∙ ap₂ (λ (t : Bool) (w : ℕ). cond t w (get_or m a 0)) (here a) (through (get_or m a 0))
        ∙ sym (drawn_at f (λ a. eqb a x && inside f a) m a l))
      where
        accepted : number (word_write f x) (board s m r) ≡ 0
        accepted =
            number_is (word_write f x) (board s m r) fine
            ∙ word_accepted (rows_of (board s m r)) s.loaded (x / 512) (x % 512) f.colour f.mask (omega (arith, fitted_rows)) (omega arith)

        here : (a : ℕ) → eqb a (512 * (x / 512) + x % 512) ≡ (eqb a x && inside f a)
        here a = let e : 512 * (x / 512) + x % 512 ≡ x = omega arith in ap (eqb a) e ∙ go (eqb a x) refl
          where
            go : (t : Bool) → eqb a x ≡ t → t ≡ (t && inside f a)
            go true q = sym (ap (inside f) (eqb-true a x q) ∙ i)
            go false q = refl

    module _ (coloured : s.colour ≡ f.colour) where
      -- a word of the block takes the colour if it lies inside, and else stays
      block_word : (x a : ℕ) → a / 4 ≡ x → (w : ℕ) → w < 65536
          → merged w s.colour (λ i. lets (columns_of f x) (a % 4) i && allowed s 1 f.mask 3 i) ≡ cond (inside f a) (merged w f.colour (bit f.mask)) w
      unfolding columns_of
      block_word x a e w h =
          ap (λ (c : ℕ). merged w c (λ i. lets (columns_of f x) (a % 4) i && allowed s 1 f.mask 3 i)) coloured
          ∙ merged_cong w f.colour (λ i. lets (columns_of f x) (a % 4) i && allowed s 1 f.mask 3 i) (λ i. inside f a && bit f.mask i)
          (λ i l.
          let z : 4 * x + (4 * (i / 4) + a % 4) % 4 ≡ a = omega arith in
          ap₂ (λ (t u : Bool). t && u) (lets_bit (λ b. inside f (4 * x + b % 4)) (a % 4) i (omega arith) l ∙ ap (inside f) z) (allowed_given s f.mask i plain l))
          ∙ go (inside f a)
        where
          go : (t : Bool) → merged w f.colour (λ i. t && bit f.mask i) ≡ cond t (merged w f.colour (bit f.mask)) w
          go true = refl
          go false = merged_none w f.colour (λ i. false) h (λ i l. refl)

      block_one : (x : ℕ) → x < 128 * rows → step (block_write f x) (board s m r) ≡ board s (drawn f (λ a. eqb (a / 4) x && inside f a) m) r
      block_one x h =
          wrote (block_write f x) (subst (λ (n : ℕ). n < 3) (sym (tag_block (x / 128) (4 * (x % 128)) (columns_of f x) 1 f.mask 3)) (omega arith)) (λ a. eqb (a / 4) x && inside f a)
          (λ a l.
          block_write_at (board s m r) (x / 128) (4 * (x % 128)) (columns_of f x) 1 f.mask 3 accepted a l
          ∙ ap (λ (n : ℕ). cond (eqb (a / 4) n) (merged (get_or m a 0) s.colour (λ i. lets (columns_of f x) (a % 4) i && allowed s 1 f.mask 3 i)) (get_or m a 0)) place
          ∙ here a (eqb (a / 4) x) refl
          ∙ sym (drawn_at f (λ a. eqb (a / 4) x && inside f a) m a l))
        where
          accepted : number (block_write f x) (board s m r) ≡ 0
          accepted =
              number_is (block_write f x) (board s m r) fine
              ∙ block_accepted (rows_of (board s m r)) s.loaded (x / 128) (4 * (x % 128)) (columns_of f x) f.mask (omega (arith, fitted_rows)) (omega arith)

          place : 128 * (x / 128) + 4 * (x % 128) / 4 ≡ x
          place = omega arith

          here : (a : ℕ) (t : Bool) → eqb (a / 4) x ≡ t
              → cond t (merged (get_or m a 0) s.colour (λ i. lets (columns_of f x) (a % 4) i && allowed s 1 f.mask 3 i)) (get_or m a 0)
              ≡ cond (t && inside f a) (merged (get_or m a 0) f.colour (bit f.mask)) (get_or m a 0)
          here a true e = block_word x a (eqb-true (a / 4) x e) (get_or m a 0) (k.words a)
          here a false e = refl

  -- ---- all of them

  module _ (sound : Sound f) (same : f.rows ≡ rows) where
    -- every word of the rectangle is reached
    whole : (unit : ℕ → ℕ) (limit : ℕ) → ((a : ℕ) → a < 512 * rows → unit a < limit) → (a : ℕ) → (between 0 (0 + limit) (unit a) && inside f a) ≡ inside f a
    whole unit limit within a = go (inside f a) refl
      where
        go : (t : Bool) → inside f a ≡ t → (between 0 (0 + limit) (unit a) && t) ≡ t
        go true e =
            let i = inside_says f a e in
            let p = i.row_to in
            let q = sound.row_end in
            let l = within a (omega arith) in
            ap (λ (t : Bool). t && true) (between_in 0 (0 + limit) (unit a) (omega arith) (omega arith))
        go false e = none (between 0 (0 + limit) (unit a))
          where
            none : (t : Bool) → (t && false) ≡ false
            none true = refl
            none false = refl

    -- a block that is not touched has no word inside
    missed : (a : ℕ) → touched f (a / 4) ≡ false → inside f a ≡ false
    missed a e = go (inside f a) refl
      where
        go : (t : Bool) → inside f a ≡ t → t ≡ false
        go true q = sym (touched_in f a q) ∙ e
        go false q = refl

    pub words_paint : (m : List ℕ) → Memory rows m → run (by_words f) (board s m r) ≡ board s (painted f m) r
    words_paint m k =
        ap (λ (n : ℕ). run (map (word_write f) (picked (inside f) 0 (512 * n))) (board s m r)) same
        ∙ units f rows s r (λ a. a) (inside f) (word_write f) (512 * rows) (λ a e. e) (λ x m l i k. word_one m k x l i) (512 * rows) 0 m (omega arith) k
        ∙ ap (λ (l : List ℕ). board s l r) (drawn_cong f (λ a. between 0 (0 + 512 * rows) a && inside f a) (inside f) (whole (λ a. a) (512 * rows) (λ a l. l)) m)

    pub blocks_paint : s.colour ≡ f.colour → (m : List ℕ) → Memory rows m → run (map (block_write f) (touched_blocks f)) (board s m r) ≡ board s (painted f m) r
    blocks_paint c m k =
        ap (λ (n : ℕ). run (map (block_write f) (picked (touched f) 0 (128 * n))) (board s m r)) same
        ∙ units f rows s r (λ a. a / 4) (touched f) (block_write f) (128 * rows) missed (λ x m l i k. block_one m k c x l) (128 * rows) 0 m (omega arith) k
        ∙ ap (λ (l : List ℕ). board s l r) (drawn_cong f (λ a. between 0 (0 + 128 * rows) (a / 4) && inside f a) (inside f) (whole (λ a. a / 4) (128 * rows) (λ a l. omega arith)) m)

    -- ---- the first of them: some words of the rectangle are painted whole, and no other word is touched

    abbrev pub Drawn : List Cycle → List ℕ → Type 0
    Drawn l m = (q : ℕ → Bool) × ((a : ℕ) → q a ≡ true → inside f a ≡ true) × (run l (board s m r) ≡ board s (drawn f q m) r)

    within : (unit : ℕ → ℕ) (j a : ℕ) → (between 0 (0 + j) (unit a) && inside f a) ≡ true → inside f a ≡ true
    within unit j a e = (both (between 0 (0 + j) (unit a)) (inside f a) e).1

    pub words_first : (k : ℕ) (m : List ℕ) → Memory rows m → Drawn (take k (by_words f)) m
    words_first k m h =
        let u = units_first f rows s r (λ a. a) (inside f) (word_write f) (512 * rows) (λ a e. e) (λ x m l i k. word_one m k x l i) k (512 * rows) m (omega arith) h in (
          (λ a. between 0 (0 + u.0) a && inside f a),
          within (λ a. a) u.0,
          ap (λ (n : ℕ). run (take k (map (word_write f) (picked (inside f) 0 (512 * n)))) (board s m r)) same ∙ u.1,
        )

    pub blocks_first : s.colour ≡ f.colour → (k : ℕ) (m : List ℕ) → Memory rows m → Drawn (take k (map (block_write f) (touched_blocks f))) m
    blocks_first c k m h =
        let u = units_first f rows s r (λ a. a / 4) (touched f) (block_write f) (128 * rows) missed (λ x m l i k. block_one m k c x l) k (128 * rows) m (omega arith) h in (
          (λ a. between 0 (0 + u.0) (a / 4) && inside f a),
          within (λ a. a / 4) u.0,
          ap (λ (n : ℕ). run (take k (map (block_write f) (picked (touched f) 0 (128 * n)))) (board s m r)) same ∙ u.1,
        )
