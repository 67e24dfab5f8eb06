-- Bytes that were written for cycles, as a planner needs them: byte by byte, joined, accepted and run. Assumes nothing.
use Rattle.std.specs.Prelude.{◌≡◌, refl, Bool, ◌≢◌, ℕ, ◌+◌, ◌/◌, ◌%◌}
use Rattle.std.proofs.Common.{sym, ap, ap₂, ◌∙◌, List, [], ◌∷◌, ◌++◌, map, append_assoc}
use mathlib.Core.List.{Memᴰ}
use Rattle.vram.specs.declared.Cycle.{Cycle}
use Rattle.vram.specs.declared.Cycle.TheVariants.{WordWrite, BlockWrite, LoadColour}
use Rattle.vram.specs.Board.{Board}
use Rattle.vram.specs.Refusal.{refusal}
use Rattle.vram.specs.Kinds.{tag_of}
use Rattle.vram.proofs.CaseLaws.{tag_word, tag_block, tag_colour}
use Rattle.vram.specs.Step.{given_of, rows_of, run}
use Rattle.list.specs.Meaning.{Bad}
use Rattle.list.specs.Tags.{len_of}
use Rattle.std.specs.Prelude.Option.{None}
use Rattle.list.specs.Fields.{Field, size_of}
use Rattle.list.specs.Open.{open_after}
use Rattle.list.proofs.OpenLaws.{open_nil, open_next, by_no_load}
use Rattle.list.specs.Meaning.{number_of, made_by, bad, verdict, left_behind, verdict_of, gives, run_call}
use Rattle.list.proofs.VerdictLaws.{verdict_nil, verdict_good}
use Rattle.list.proofs.JudgeLaws.{left_none}
use Rattle.list.proofs.CallLaws.{verdict_left, call_given, call_runs}
use Rattle.list.specs.Encode.{body_of, encode, encode_all}
use Rattle.list.proofs.EncodeLaws.{encoded, fields_encode_all, cycles_encode_all}

-- ---- byte by byte

-- the thirteen bytes of a word write (tag 1) or a block write (tag 2)
abbrev pub write : ℕ → ℕ → ℕ → ℕ → ℕ → ℕ → ℕ → List ℕ
write tag row column value masking mask strobes =
    tag ∷ 0 ∷ 10 ∷ row / 256 ∷ row % 256 ∷ column / 256 ∷ column % 256 ∷ value / 256 ∷ value % 256 ∷ masking ∷ mask / 256 ∷ mask % 256 ∷ strobes ∷ []

pub encode_word : (row column word masking mask strobes : ℕ)
    → encode (WordWrite row column word masking mask strobes) ≡ write 1 row column word masking mask strobes
unfolding encode body_of len_of
encode_word row column word masking mask strobes = rw (tag_word row column word masking mask strobes)

pub encode_block : (row column columns masking mask strobes : ℕ)
    → encode (BlockWrite row column columns masking mask strobes) ≡ write 2 row column columns masking mask strobes
unfolding encode body_of len_of
encode_block row column columns masking mask strobes = rw (tag_block row column columns masking mask strobes)

pub encode_colour : (word strobes : ℕ) → encode (LoadColour word strobes) ≡ 3 ∷ 0 ∷ 3 ∷ word / 256 ∷ word % 256 ∷ strobes ∷ []
unfolding encode body_of len_of
encode_colour word strobes = rw (tag_colour word strobes)

-- ---- one after the other

pub encode_none : encode_all [] ≡ []
unfolding encode_all
encode_none = refl

pub encode_first : (c : Cycle) (cs : List Cycle) → encode_all (c ∷ cs) ≡ encode c ++ encode_all cs
unfolding encode_all
encode_first c cs = refl

pub encode_append : (cs ds : List Cycle) → encode_all (cs ++ ds) ≡ encode_all cs ++ encode_all ds
unfolding encode_all
encode_append [] ds = refl
encode_append (c ∷ cs) ds = ap (λ (r : List ℕ). encode c ++ r) (encode_append cs ds) ∙ sym (append_assoc (encode c) (encode_all cs) (encode_all ds))

-- ---- accepted and run, where no cycle is refused on so many rows and none is a mask load

module _ (rows : ℕ) where
  verdict_encoded : (cs : List Cycle) → ((c : Cycle) → Memᴰ c cs → (made : Bool) → refusal rows made c ≡ 0)
      → (made : Bool) (at : ℕ) → verdict rows made at (map encoded cs) ≡ bad 0 0
  unfolding number_of
  verdict_encoded [] h made at = verdict_nil rows made at
  verdict_encoded (c ∷ cs) h made at =
      verdict_good rows made at (encoded c) (map encoded cs) (h c (Memᴰ.head refl) made)
      ∙ verdict_encoded cs (λ d m. h d (Memᴰ.tail m)) (made_by (encoded c) made) (at + size_of (encoded c))

open_encoded : (cs : List Cycle) → ((c : Cycle) → Memᴰ c cs → tag_of c ≢ 4) → (at : ℕ) → open_after at (map encoded cs) None ≡ None
open_encoded [] h at = open_nil at None
open_encoded (c ∷ cs) h at =
    open_next at (encoded c) (map encoded cs) None
    ∙ ap (open_after (at + size_of (encoded c)) (map encoded cs)) (by_no_load at c (len_of (tag_of c)) (h c (Memᴰ.head refl)))
    ∙ open_encoded cs (λ d m. h d (Memᴰ.tail m)) (at + size_of (encoded c))

module _ (cs : List Cycle) (b : Board) (g : given_of b ≡ 0) (h : (c : Cycle) → Memᴰ c cs → (made : Bool) → refusal (rows_of b) made c ≡ 0)
    (k : (c : Cycle) → Memᴰ c cs → tag_of c ≢ 4) where
  pub encoded_verdict : verdict_of (encode_all cs) b ≡ bad 0 0
  encoded_verdict =
      let made = b.state.loaded in
      let e = ap (verdict (rows_of b) made 0) (fields_encode_all cs) ∙ verdict_encoded (rows_of b) cs h made 0 in
      verdict_left (encode_all cs) b g (ap (λ (v : Bad). v.number) e)
      ∙ ap left_behind (ap (λ (fs : List Field). open_after 0 fs None) (fields_encode_all cs) ∙ open_encoded cs k 0)
      ∙ left_none

  pub encoded_run : run_call (encode_all cs) b ≡ gives (bad 0 0) (run cs b)
  encoded_run =
      ap₂ gives
      (call_given (encode_all cs) b ∙ encoded_verdict)
      (call_runs (encode_all cs) b (ap (λ (v : Bad). v.number) encoded_verdict) ∙ ap (λ (l : List Cycle). run l b) (cycles_encode_all cs))
