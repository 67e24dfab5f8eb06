-- Laws of what a link sends: where the rows that it does not send are the same, its copy is the memory. Assumes nothing.
use Rattle.std.specs.Prelude.{◌≡◌, refl, ◌≢◌, ◌⊎◌, ℕ, ◌+◌, ◌*◌, ◌/◌, ◌%◌, ◌≤◌, ◌<◌, length, get_or, drop}
use Rattle.std.proofs.Common.{sym, ap, ◌∙◌, arith, ext_get_or, get_or-take, get_or-drop, eq-eqb, ne_eqb, List, [], ◌∷◌}
use Rattle.std.proofs.Math.Logic.{inl, inr, ⊎_elim}
use Rattle.std.proofs.Math.Decide.{ℕ_discrete, dec_lt}
use Rattle.vram.specs.Writes.{row_of}
use Rattle.vram.specs.Memory.{copied}
use Rattle.vram.specs.MemoryLaws.{copied_length, copied_in, copied_out}
use Rattle.marks.specs.Walk.{how_often, sent_rows}

-- ---- a word of the copy, where only rows that are fitted are sent

abbrev Fitted : List ℕ → List ℕ → Type 0
Fitted memory rows = (r : ℕ) → how_often r rows ≢ 0 → 512 * r + 512 ≤ length memory

-- the first of some rows stands among them
first_stands : (r : ℕ) (rows : List ℕ) → how_often r (r ∷ rows) ≢ 0
unfolding how_often
first_stands r rows z = let y : ◌≡◌ {A = ℕ} (1 + how_often r rows) 0 = rw (eq-eqb r r refl) at z in omega arith

module _ (memory : List ℕ) (a : ℕ) where
  module _ (r : ℕ) (copy : List ℕ) (e : length copy ≡ length memory) (f : 512 * r + 512 ≤ length memory) where
    -- of the row that is sent it is the memory's, and of another it stays
    here : a / 512 ≡ r → get_or (copied memory (512 * r) copy (512 * r) 512) a 0 ≡ get_or memory a 0
    here q =
        let n : 512 * r + a % 512 ≡ a = omega arith in
        ap (λ (x : ℕ). get_or (copied memory (512 * r) copy (512 * r) 512) x 0) (sym n)
        ∙ copied_in memory (512 * r) copy (512 * r) 512 f (omega arith) (a % 512) (omega arith)
        ∙ ap (λ (x : ℕ). get_or memory x 0) n

    away : a / 512 ≢ r → get_or (copied memory (512 * r) copy (512 * r) 512) a 0 ≡ get_or copy a 0
    away q = copied_out memory (512 * r) copy (512 * r) 512 f (omega arith) a (outside r q)
      where
        outside : (r : ℕ) → a / 512 ≢ r → (a < 512 * r) ⊎ (512 * r + 512 ≤ a)
        outside r q = elim (dec_lt a (512 * r)) [
          | yes l ↦ inl l
          | no n ↦ inr (omega arith)
        ]

  -- it is the memory's where its row is sent, or where it was so before
  sent_at : (rows copy : List ℕ) → length copy ≡ length memory → Fitted memory rows
      → (how_often (a / 512) rows ≢ 0) ⊎ (get_or copy a 0 ≡ get_or memory a 0) → get_or (sent_rows memory rows copy) a 0 ≡ get_or memory a 0
  unfolding sent_rows how_often
  sent_at [] copy e f h = ⊎_elim (λ n. absurd (n refl)) (λ g. g) h
  sent_at (r ∷ rows) copy e f h =
      let k = f r (first_stands r rows) in
      sent_at rows (copied memory (512 * r) copy (512 * r) 512)
      (copied_length memory (512 * r) copy (512 * r) 512 k (omega arith) ∙ e)
      (λ q n. f q (λ z. n (omega arith)))
      (elim (ℕ_discrete (a / 512) r) [
        | yes q ↦ inr (here r copy e k q)
        | no n ↦
            ⊎_elim (λ m. inl (λ z. m (rw (ne_eqb r (a / 512) (λ x. n (sym x))) (omega arith)))) (λ g. inr (away r copy e k n ∙ g)) h
      ])

-- the length of the copy stays
sent_length : (memory rows copy : List ℕ) → length copy ≡ length memory → Fitted memory rows → length (sent_rows memory rows copy) ≡ length copy
unfolding sent_rows how_often
sent_length memory [] copy e f = refl
sent_length memory (r ∷ rows) copy e f =
    let l = copied_length memory (512 * r) copy (512 * r) 512 (f r (first_stands r rows)) (omega (arith, f r (first_stands r rows))) in
    sent_length memory rows (copied memory (512 * r) copy (512 * r) 512) (l ∙ e) (λ q n. f q (λ z. n (omega arith))) ∙ l

-- ---- the whole copy

-- a word, by its row
same_word : (m copy : List ℕ) (a : ℕ) → row_of (a / 512) copy ≡ row_of (a / 512) m → get_or copy a 0 ≡ get_or m a 0
same_word m copy a e = sym (at copy) ∙ ap (λ (row : List ℕ). get_or row (a % 512) 0) e ∙ at m
  where
    at : (x : List ℕ) → get_or (row_of (a / 512) x) (a % 512) 0 ≡ get_or x a 0
    at x =
        let c : 512 * (a / 512) + a % 512 ≡ a = omega arith in
        get_or-take 512 (drop (512 * (a / 512)) x) (a % 512) 0 (omega arith)
        ∙ get_or-drop (512 * (a / 512)) x (a % 512) 0
        ∙ ap (λ (i : ℕ). get_or x i 0) c

pub sent_whole : (memory rows copy : List ℕ) → length copy ≡ length memory → Fitted memory rows
    → ((q : ℕ) → 512 * q < length memory → how_often q rows ≡ 0 → row_of q copy ≡ row_of q memory) → sent_rows memory rows copy ≡ memory
sent_whole memory rows copy e f g =
    ext_get_or 0 (sent_rows memory rows copy) memory (l ∙ e)
    (λ a b. sent_at memory a rows copy e f
    (elim (ℕ_discrete (how_often (a / 512) rows) 0) [
      | yes z ↦ inr (same_word memory copy a (g (a / 512) (omega (arith, l, e, b)) z))
      | no n ↦ inl n
    ]))
  where
    l : length (sent_rows memory rows copy) ≡ length copy
    l = sent_length memory rows copy e f
