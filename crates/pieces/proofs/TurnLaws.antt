-- What the code's steps through a piece come to. Assumes nothing.
use Rattle.std.specs.Prelude.{◌≡◌, refl, Bool, true, false, List, [], ◌≢◌, ℕ, ◌+◌, ◌≤◌, ◌<◌, eqb, length, drop}
use Rattle.std.proofs.Common.{sym, ap, ap₂, ◌∙◌, subst, true≢false, arith, add-zero, ne_eqb, eqb-true}
use Rattle.std.proofs.lemmas.Bool.{eqb-false}
use Rattle.std.specs.Prelude.{Result, is_ok}
use Rattle.std.specs.Prelude.Result.{Ok, Err}
use Rattle.numbers.specs.declared.Refusal.{Refusal}
use Rattle.numbers.specs.Refusal.{given_back}
use Rattle.numbers.specs.RefusalLaws.{number_not_zero}
use Rattle.vram.specs.declared.Cycle.{Cycle}
use Rattle.vram.specs.Board.{Board}
use Rattle.vram.specs.Step.{given_of, rows_of, number, step}
use Rattle.vram.specs.StepLaws.{step_refuses}
use Rattle.vram.proofs.RuleLaws.{step_given}
use Rattle.vram.proofs.CaseLaws.{cycle_number, cycle_after, number_is}
use Rattle.vram.specs.Calls.{Outcome, cycle_call}
use Rattle.list.specs.declared.Head.{Head}
use Rattle.list.specs.declared.Head.TheVariants.{Waits, Wrong, Whole}
use Rattle.std.specs.Prelude.{Option}
use Rattle.list.specs.Tags.{len_of, cycle_of}
use Rattle.list.specs.TagLaws.{len_most}
use Rattle.list.specs.Fields.{tag, body, whole, field_of}
use Rattle.list.proofs.FieldLaws.{whole_length, field_whole}
use Rattle.list.specs.Open.{opens}
use Rattle.list.proofs.OpenLaws.{open_whole}
use Rattle.list.proofs.VerdictLaws.{size_whole, number_whole, accepted_whole}
use Rattle.list.specs.Heads.{head_of}
use Rattle.list.proofs.HeadLaws.{Told, head_told}
use Rattle.list.specs.Waits.{waits}
use Rattle.list.proofs.WaitsLaws.{whole_settled, settled_fits}
use Rattle.pieces.specs.Line.{line, refused, Port, port, limit, number_on, draws, met, piece}
use Rattle.pieces.proofs.LineLaws.{met_run, met_refused, refused_stays}
use Rattle.pieces.proofs.WholeLaws.{whole_turn, met_wrong, wrong_turn}
use Rattle.pieces.specs.Pieces.{possible}
use Rattle.pieces.specs.PackLaws.{possible_going}
use Rattle.pieces.proofs.KeepLaws.{met_possible}
use Rattle.pieces.specs.Turns.{standing, Meets}

-- ---- whether an answer refuses

pub done_number : {T : Type 0} (answer : Result T Refusal) → is_ok answer ≡ true → given_back answer ≡ 0
done_number (Ok made) h = refl
done_number (Err refusal) h = absurd (true≢false (sym h))

pub refused_number : {T : Type 0} (answer : Result T Refusal) → is_ok answer ≡ false → given_back answer ≢ 0
refused_number (Ok made) h = absurd (true≢false h)
refused_number (Err refusal) h = number_not_zero refusal

-- ---- the field at the head of some bytes, by what the code has of it

module _ (s : List ℕ) where
  told : (h : Head) → head_of s ≡ h → Told s h
  told h e = subst (Told s) e (head_told s)

  -- a whole field has bytes
  pub whole_some : (c : Cycle) (size : ℕ) → head_of s ≡ Whole c size → 0 < length s
  whole_some c size e = omega (arith, whole_length s (told (Whole c size) e).0)

module _ (at : ℕ) (s : List ℕ) (left : Option ℕ) (b : Board) (g : given_of b ≡ 0) where
  pub meets_waits : head_of s ≡ Waits → (true ≡ waits s) × Meets at s left b 0 0 left b
  meets_waits e =
      let w : waits s ≡ true = told s Waits e in (
        sym w,
        record {
          given = g;
          inside = omega arith;
          most = omega arith;
          waiting = λ k. (refl, refl, refl, refl);
          run = λ k. absurd (true≢false (sym w ∙ k));
          settled = λ k. absurd (true≢false (sym w ∙ k));
        },
      )

  -- refused: it takes no bytes
  stops : (n : ℕ) (b' : Board) → given_of b' ≡ 0 → n ≢ 0 → waits s ≡ false → met at (field_of s) left b ≡ port (refused n at) b'
      → (false ≡ waits s) × Meets at s left b n 0 left b'
  stops n b' g' h w m =
      let e : port (standing n (at + 0) left) b' ≡ port (refused n at) b' = rw (ne_eqb n 0 h, add-zero at) in (
        sym w,
        record {
          given = g';
          inside = omega arith;
          most = omega arith;
          waiting = λ k. absurd (true≢false (sym k ∙ w));
          run = λ k z. absurd (h z);
          settled = λ k. m ∙ sym e;
        },
      )

  pub meets_wrong : head_of s ≡ Wrong → (false ≡ waits s) × Meets at s left b 4 0 left b
  meets_wrong e = let t = told s Wrong e in stops 4 b g (λ z. omega arith) t.0 (met_wrong at left b s t.1)

  module _ (c : Cycle) (size : ℕ) (e : head_of s ≡ Whole c size) where
    w : whole s ≡ true
    w = (told s (Whole c size) e).0

    same_number : number_on (field_of s) b ≡ number c b
    same_number =
        number_whole s w (rows_of b) b.state.loaded
        ∙ sym (number_is (cycle_of (tag s) (body s)) b g)
        ∙ ap (λ (x : Cycle). number x b) (sym (told s (Whole c size) e).1)

    drawn : draws (field_of s) b ≡ step c b
    unfolding draws
    drawn = rw (field_whole s w) (ap (λ (x : Cycle). step x b) (sym (told s (Whole c size) e).1))

    -- o is what the cycle's call gave
    module _ (o : Outcome) (f : o ≡ cycle_call c b) where
      got : o.given ≡ number c b
      got = ap (λ (x : Outcome). x.given) f ∙ cycle_number c b

      left_on : o.after ≡ step c b
      left_on = ap (λ (x : Outcome). x.after) f ∙ cycle_after c b

      still : given_of o.after ≡ 0
      still = ap given_of left_on ∙ step_given c b ∙ g

      pub meets_refused : o.given ≢ 0 → (false ≡ waits s) × Meets at s left b o.given 0 left o.after
      meets_refused n =
          let k : number c b ≢ 0 = λ z. n (got ∙ z) in
          stops o.given o.after still n (whole_settled s w)
          (met_refused at (field_of s) left b (λ z. k (sym same_number ∙ z))
          ∙ ap₂ (λ (i : ℕ) (x : Board). port (refused i at) x) (same_number ∙ sym got) (sym (left_on ∙ step_refuses _ c b k)))

      pub meets_run : o.given ≡ 0 → (later : Option ℕ) → later ≡ opens (tag s) at left → (false ≡ waits s) × Meets at s left b 0 size later o.after
      meets_run z later q =
          let k = (told s (Whole c size) e).2 in (
            sym (whole_settled s w),
            record {
              given = still;
              inside = omega (arith, whole_length s w);
              most = omega (arith, len_most (tag s));
              waiting = λ h. absurd (true≢false (sym h ∙ whole_settled s w));
              run = λ h n. (w, k);
              settled =
                  λ h. met_run at (field_of s) left b (same_number ∙ sym got ∙ z)
                  ∙ ap₂ (λ (n : ℕ) (y : Option ℕ). port (line [] (at + n) 0 y) (draws (field_of s) b)) (size_whole s w ∙ sym k) (open_whole s w at left ∙ sym q)
                  ∙ ap (port (line [] (at + size) 0 later)) (drawn ∙ sym left_on);
            },
          )

-- ---- with nothing held: what the field leaves is what its bytes leave

module _ (at : ℕ) (s : List ℕ) (left : Option ℕ) (b : Board) (n k : ℕ) (later : Option ℕ) (b' : Board) (m : Meets at s left b n k later b') where
  abbrev now : Port
  now = port (standing n (at + k) later) b'

  unmoved : waits s ≡ true → now ≡ port (line [] at 0 left) b
  unmoved w =
      let e = m.waiting w in
      ap₂ (λ (i j : ℕ). port (standing i (at + j) later) b') e.0 e.1
      ∙ ap₂ (λ (i : ℕ) (o : Option ℕ). port (line [] i 0 o) b') (add-zero at) e.2
      ∙ ap (port (line [] at 0 left)) e.3

  -- it waits
  pub meets_stay : waits s ≡ true → (i : ℕ) (t : List ℕ) → drop i t ≡ s → piece (port (line [] at 0 later) b') (drop i t) ≡ piece (port (line [] at 0 left) b) s
  meets_stay w i t e =
      let f = m.waiting w in
      ap₂ (λ (o : Option ℕ) (x : Board). piece (port (line [] at 0 o) x) (drop i t)) f.2 f.3 ∙ ap (piece (port (line [] at 0 left) b)) e

  module _ (l : at + 13 ≤ limit) where
    -- it is refused, or run
    settles : waits s ≡ false → (u : Bool) → whole s ≡ u → (v : Bool) → eqb n 0 ≡ v → piece now (drop k s) ≡ piece (port (line [] at 0 left) b) s
    settles w u q true z =
        let r = m.run w (eqb-true _ _ z) in
        ap₂ (λ (p : Port) (i : ℕ). piece p (drop i s)) (sym (m.settled w)) r.1
        ∙ sym (whole_turn at left b s r.0 (omega (arith, len_most (tag s))))
    settles w true q false z =
        refused_stays (drop k s) now (eqb-false _ _ z)
        ∙ sym
        (whole_turn at left b s q (omega (arith, len_most (tag s)))
        ∙ ap (λ (p : Port). piece p (drop (3 + len_of (tag s)) s)) (m.settled w)
        ∙ refused_stays (drop (3 + len_of (tag s)) s) now (eqb-false _ _ z))
    settles w false q false z =
        refused_stays (drop k s) now (eqb-false _ _ z)
        ∙ sym (m.settled w)
        ∙ met_wrong at left b s q
        ∙ sym (wrong_turn at left b s w q)

    pub meets_turn : waits s ≡ false → piece now (drop k s) ≡ piece (port (line [] at 0 left) b) s
    meets_turn w = settles w (whole s) refl (eqb n 0) refl

    pub meets_possible : possible (line [] at 0 left) ≡ true → possible (standing n (at + k) later) ≡ true
    meets_possible h = go (waits s) refl
      where
        go : (t : Bool) → waits s ≡ t → possible (standing n (at + k) later) ≡ true
        go true w = ap (λ (p : Port). possible p.line) (unmoved w) ∙ h
        go false w =
            ap (λ (p : Port). possible p.line) (sym (m.settled w))
            ∙ met_possible at (field_of s) left b (possible_going (line [] at 0 left) refl h).earlier
            (λ z. omega (arith, (settled_fits s (accepted_whole s (rows_of b) b.state.loaded z)).1))
