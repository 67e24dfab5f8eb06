-- The plan's bytes run: accepted, and what they leave. Assumes nothing.
use Rattle.std.specs.Prelude.{◌≡◌, Bool, cond, leb, length, get_or, take}
use Rattle.std.proofs.Math.Path.{refl, sym, ap}
use Rattle.std.proofs.Common.{◌∙◌, subst, true≢false, arith, ext_get_or, eqb-true, ℕ, zero, suc, ◌+◌, ◌*◌, ◌<◌, ◌≤◌, List, [], map}
use Rattle.std.proofs.Math.Bool.{true, false}
use Rattle.std.proofs.Math.Dec.{eqb}
use Rattle.std.proofs.Math.Seq.{take-nil}
use Rattle.words.specs.Bit.{bit}
use Rattle.words.specs.BitLaws.{bit_none}
use Rattle.words.specs.Word.{merged, covers}
use Rattle.words.specs.WordLaws.{merged_none, merged_all, covers_both}
use Rattle.vram.specs.declared.Vram.{Vram}
use Rattle.vram.specs.declared.Cycle.{Cycle}
use Rattle.vram.specs.declared.Cycle.TheVariants.{LoadColour}
use Rattle.vram.specs.State.{with_colour}
use Rattle.vram.specs.Board.{Board, board}
use Rattle.vram.specs.Refusal.{given, refusal}
use Rattle.refusals.specs.RefusalLaws.{rows_fitted}
use Rattle.vram.specs.RefusalLaws.{given_done}
use Rattle.vram.specs.Step.{given_of, rows_of, step, run}
use Rattle.vram.proofs.CaseLaws.{run_none, run_next, number_is, colour_accepted}
use Rattle.vram.proofs.RuleLaws.{step_given}
use Rattle.vram.proofs.CycleLaws.{colour_load_sets}
use Rattle.list.specs.Meaning.{bad, gives, run_call}
use Rattle.list.proofs.EncodedLaws.{encoded_run}
use Rattle.planner.specs.Fill.{Fill, inside, touched_blocks, W, B, block_write, by_words, by_blocks, uses_blocks, plan}
use Rattle.planner.proofs.FillLaws.{Sound}
use Rattle.planner.specs.Calls.{list_of}
use Rattle.planner.specs.Paint.{painted, Wide, Memory, Start}
use Rattle.planner.proofs.PaintLaws.{painted_length, drawn, drawn_at, drawn_none}
use Rattle.planner.proofs.PlanPaints.{words_paint, blocks_paint, words_first, blocks_first}
use Rattle.planner.proofs.AcceptedLaws.{plan_accepted, plan_tags}

-- through a mask of 0 nothing is drawn
painted_nothing : (f : Fill) (m : List ℕ) → f.mask ≡ 0 → Memory f.rows m → painted f m ≡ m
painted_nothing f m e k =
    ext_get_or 0 (painted f m) m (painted_length f m)
    (λ a h. drawn_at f (inside f) m a (subst (λ (n : ℕ). a < n) (painted_length f m) h) ∙ go (inside f a) (get_or m a 0) (k.words a))
  where
    go : (t : Bool) (w : ℕ) → w < 65536 → cond t (merged w f.colour (bit f.mask)) w ≡ w
    go true w l = merged_none w f.colour (bit f.mask) l (λ i u. ap (λ (n : ℕ). bit n i) e ∙ bit_none i)
    go false w l = refl

-- a board from which fills paint has nothing that is refused, and the rows fitted
module _ (rows : ℕ) (b : Board) where
  pub start_given : 1 ≤ rows → rows ≤ 512 → Start rows b → given_of b ≡ 0
  start_given least most s =
      ap (λ (n : ℕ). given b.state n (length b.serial)) s.memory.size
      ∙ given_done b.state (512 * rows) (length b.serial) (record { rule = s.rule; rows = rows_fitted rows least most; register = s.register })

  pub start_rows : Start rows b → rows_of b ≡ rows
  start_rows s = let e = s.memory.size in omega arith

module _ (f : Fill) (sound : Sound f) (wide : Wide f) (b : Board) (start : Start f.rows b) where
  given_board : given_of b ≡ 0
  given_board = start_given f.rows b sound.rows_least sound.rows_most start

  given_start : given b.state (512 * f.rows) (length b.serial) ≡ 0
  given_start = ap (λ (n : ℕ). given b.state n (length b.serial)) (sym start.memory.size) ∙ given_board

  rows_board : rows_of b ≡ f.rows
  rows_board = start_rows f.rows b start

  -- the colour load
  inked : Vram
  inked = with_colour b.state f.colour

  load : step (LoadColour f.colour 3) b ≡ board inked b.memory b.serial
  unfolding inked
  load =
      colour_load_sets b f.colour 3 (number_is (LoadColour f.colour 3) b given_board ∙ colour_accepted (rows_of b) b.state.loaded f.colour)
      ∙ ap (λ (c : ℕ). board (with_colour b.state c) b.memory b.serial) (merged_all b.state.colour f.colour (covers 3) wide.colour covers_both)

  given_inked : given inked (512 * f.rows) (length b.serial) ≡ 0
  given_inked =
      ap (λ (n : ℕ). given inked n (length b.serial)) (sym start.memory.size)
      ∙ sym (ap given_of load) ∙ step_given (LoadColour f.colour 3) b ∙ given_board

  blocks_run : run (by_blocks f) b ≡ board inked (painted f b.memory) b.serial
  unfolding inked
  blocks_run =
      run_next step (LoadColour f.colour 3) (map (block_write f) (touched_blocks f)) b
      ∙ ap (run (map (block_write f) (touched_blocks f))) load
      ∙ blocks_paint f f.rows inked b.serial given_inked start.plain sound refl refl b.memory start.memory

  abbrev left : Bool → Board
  left uses = board (with_colour b.state (cond uses f.colour b.state.colour)) (painted f b.memory) b.serial

  -- the plan, run cycle by cycle
  pub plan_runs : run (plan f) b ≡ left (uses_blocks f)
  unfolding plan inked
  plan_runs = go (eqb f.mask 0) (leb (W f) (1 + B f)) refl
    where
      go : (t u : Bool) → eqb f.mask 0 ≡ t → run (cond t [] (cond u (by_words f) (by_blocks f))) b ≡ left (cond t false (cond u false true))
      go true u e =
          run_none step b ∙ ap (λ (m : List ℕ). board b.state m b.serial) (sym (painted_nothing f b.memory (eqb-true f.mask 0 e) start.memory))
      go false true e = words_paint f f.rows b.state b.serial given_start start.plain sound refl b.memory start.memory
      go false false e = blocks_run

  pub list_runs : run_call (list_of f) b ≡ gives (bad 0 0) (left (uses_blocks f))
  list_runs =
      encoded_run (plan f) b given_board
      (λ c m made. ap (λ (n : ℕ). refusal n made c) rows_board ∙ plan_accepted f c m made)
      (λ c m e. omega (arith, plan_tags f c m, e))
      ∙ ap (gives (bad 0 0)) plan_runs

  -- the first k cycles of the plan: some words of the rectangle are painted whole, and no other word is touched
  pub plan_first : (k : ℕ) → (q : ℕ → Bool) × ((a : ℕ) → q a ≡ true → inside f a ≡ true) × ((run (take k (plan f)) b).memory ≡ drawn f q b.memory)
  unfolding plan inked
  plan_first k = go k (eqb f.mask 0) (leb (W f) (1 + B f))
    where
      nothing : (l : List Cycle) → l ≡ [] → (q : ℕ → Bool) × ((a : ℕ) → q a ≡ true → inside f a ≡ true) × ((run l b).memory ≡ drawn f q b.memory)
      nothing l e = (
        (λ a. false),
        (λ a z. absurd (true≢false (sym z))),
        ap (λ (x : List Cycle). (run x b).memory) e ∙ ap (λ (x : Board). x.memory) (run_none step b) ∙ sym (drawn_none f (λ a. false) (λ a. refl) b.memory),
      )

      go : (k : ℕ) (t u : Bool)
          → (q : ℕ → Bool) × ((a : ℕ) → q a ≡ true → inside f a ≡ true) × ((run (take k (cond t [] (cond u (by_words f) (by_blocks f)))) b).memory ≡ drawn f q b.memory)
      go k true u = nothing (take k []) (take-nil k)
      go k false true =
          let d = words_first f f.rows b.state b.serial given_start start.plain sound refl k b.memory start.memory in
          (d.0, d.1, ap (λ (x : Board). x.memory) d.2)
      go zero false false = nothing [] refl
      go (suc k) false false =
          let d = blocks_first f f.rows inked b.serial given_inked start.plain sound refl refl k b.memory start.memory in (
            d.0,
            d.1,
            ap (λ (x : Board). x.memory)
                (run_next step (LoadColour f.colour 3) (take k (map (block_write f) (touched_blocks f))) b
                ∙ ap (run (take k (map (block_write f) (touched_blocks f)))) load ∙ d.2),
          )
