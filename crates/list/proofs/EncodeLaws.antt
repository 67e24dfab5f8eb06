-- What is written is read back, field by field; the laws of fields are one for every tag. Assumes nothing.
use Rattle.std.specs.Prelude.{◌≡◌, refl, true, drop}
use Rattle.std.proofs.Math.Path.{ap, ap₂}
use Rattle.std.proofs.Common.{◌∙◌, div-add-mod', drop_at, le-leb, eq-eqb, List, [], ◌∷◌, ◌++◌, map, ℕ, suc, ◌+◌, ◌*◌, ◌/◌, ◌%◌, ◌≤◌, arith}
use Rattle.std.proofs.Math.ListN.{length, length-append}
use Rattle.std.proofs.lemmas.List.{length-map}
use Rattle.std.proofs.Math.Seq.{take-append-le, take_all}
use Rattle.vram.specs.declared.Cycle.{Cycle}
use Rattle.vram.specs.declared.Cycle.TheVariants.{WordWrite, BlockWrite, LoadColour, LoadMask, ResetRefresh, FullTransfer, SplitTransfer, StopPoints}
use Rattle.vram.specs.Kinds.{tag_of}
use Rattle.vram.proofs.CaseLaws.{tag_word, tag_block, tag_colour, tag_mask, tag_reset, tag_full, tag_split, tag_stop}
use Rattle.list.specs.Tags.{word, known, len_of, cycle_of}
use Rattle.list.specs.Splits.{split}
use Rattle.list.specs.Fields.{Field, Reads, body, whole, field_of, fields}
use Rattle.list.proofs.FieldLaws.{field_whole, fields_whole}
use Rattle.list.specs.Meaning.{cycles, cycles_of, count_of}
use Rattle.list.specs.Encode.{two, body_of, encode, encode_all}

-- ---- tag by tag

-- every cycle's tag is known
pub known_tag : (c : Cycle) → known (tag_of c) ≡ true
unfolding known
known_tag (WordWrite row column bits masking mask strobes) = rw (tag_word row column bits masking mask strobes)
known_tag (BlockWrite row column columns masking mask strobes) = rw (tag_block row column columns masking mask strobes)
known_tag (LoadColour bits strobes) = rw (tag_colour bits strobes)
known_tag (LoadMask bits strobes) = rw (tag_mask bits strobes)
known_tag ResetRefresh = rw tag_reset
known_tag (FullTransfer row half tap) = rw (tag_full row half tap)
known_tag (SplitTransfer row half tap) = rw (tag_split row half tap)
known_tag (StopPoints n) = rw (tag_stop n)

-- its body has the length of its tag
pub body_length : (c : Cycle) → length (body_of c) ≡ len_of (tag_of c)
unfolding len_of body_of
body_length (WordWrite row column bits masking mask strobes) = rw (tag_word row column bits masking mask strobes)
body_length (BlockWrite row column columns masking mask strobes) = rw (tag_block row column columns masking mask strobes)
body_length (LoadColour bits strobes) = rw (tag_colour bits strobes)
body_length (LoadMask bits strobes) = rw (tag_mask bits strobes)
body_length ResetRefresh = rw tag_reset
body_length (FullTransfer row half tap) = rw (tag_full row half tap)
body_length (SplitTransfer row half tap) = rw (tag_split row half tap)
body_length (StopPoints n) = rw (tag_stop n)

-- and says the cycle
pub body_cycle : (c : Cycle) → cycle_of (tag_of c) (body_of c) ≡ c
unfolding cycle_of body_of word
body_cycle (WordWrite row column bits masking mask strobes) = simp (tag_word row column bits masking mask strobes, div-add-mod')
body_cycle (BlockWrite row column columns masking mask strobes) = simp (tag_block row column columns masking mask strobes, div-add-mod')
body_cycle (LoadColour bits strobes) = simp (tag_colour bits strobes, div-add-mod')
body_cycle (LoadMask bits strobes) = simp (tag_mask bits strobes, div-add-mod')
body_cycle ResetRefresh = rw tag_reset
body_cycle (FullTransfer row half tap) = simp (tag_full row half tap, div-add-mod')
body_cycle (SplitTransfer row half tap) = simp (tag_split row half tap, div-add-mod')
body_cycle (StopPoints n) = rw (tag_stop n)

-- ---- a field that was written

module _ (c : Cycle) (t : List ℕ) where
  whole_encode : whole (encode c ++ t) ≡ true
  unfolding whole encode word
  whole_encode =
      let n = len_of (tag_of c) in
      let l : 3 + n ≤ length (tag_of c ∷ two n (body_of c ++ t)) = omega (arith, body_length c, length-append (body_of c) t) in
      rw (le-leb (3 + n) (length (tag_of c ∷ two n (body_of c ++ t))) l, known_tag c) (eq-eqb (n / 256 * 256 + n % 256) n (div-add-mod' n 256))

  body_encode : body (encode c ++ t) ≡ body_of c
  unfolding encode
  body_encode =
      let l : len_of (tag_of c) ≤ length (body_of c) = omega (arith, body_length c) in
      let k : length (body_of c) ≤ len_of (tag_of c) = omega (arith, body_length c) in
      take-append-le (len_of (tag_of c)) (body_of c) t l ∙ take_all (len_of (tag_of c)) (body_of c) k

  -- reads back as its cycle
  pub field_encode : field_of (encode c ++ t) ≡ Reads c (len_of (tag_of c))
  unfolding encode
  field_encode =
      field_whole (encode c ++ t) whole_encode
      ∙ ap (λ (d : Cycle). Reads d (len_of (tag_of c))) (ap (cycle_of (tag_of c)) body_encode ∙ body_cycle c)

  past_encode : drop (3 + len_of (tag_of c)) (encode c ++ t) ≡ t
  unfolding encode
  past_encode =
      let e : 3 + len_of (tag_of c) ≡ suc (suc (suc (len_of (tag_of c)))) = omega arith in
      rw e (drop_at (body_of c) t (len_of (tag_of c)) (body_length c))

  -- and the fields after it follow
  pub fields_encode : fields (encode c ++ t) ≡ Reads c (len_of (tag_of c)) ∷ fields t
  unfolding encode
  fields_encode = fields_whole (encode c ++ t) whole_encode ∙ ap₂ (λ (f : Field) (s : List ℕ). f ∷ fields s) field_encode past_encode

-- how many bytes it takes
pub length_encode : (c : Cycle) → length (encode c) ≡ 3 + len_of (tag_of c)
unfolding encode
length_encode c = omega (arith, body_length c)

-- ---- a list that was written

abbrev pub encoded : Cycle → Field
encoded c = Reads c (len_of (tag_of c))

pub fields_encode_all : (cs : List Cycle) → fields (encode_all cs) ≡ map encoded cs
unfolding encode_all split
fields_encode_all [] = refl
fields_encode_all (c ∷ cs) = fields_encode c (encode_all cs) ∙ ap (λ (fs : List Field). encoded c ∷ fs) (fields_encode_all cs)

encoded_cycles : (cs : List Cycle) → cycles (map encoded cs) ≡ cs
unfolding cycles
encoded_cycles [] = refl
encoded_cycles (c ∷ cs) = ap (λ (l : List Cycle). c ∷ l) (encoded_cycles cs)

-- its cycles are those that were written
pub cycles_encode_all : (cs : List Cycle) → cycles_of (encode_all cs) ≡ cs
cycles_encode_all cs = ap cycles (fields_encode_all cs) ∙ encoded_cycles cs

pub count_encode_all : (cs : List Cycle) → count_of (encode_all cs) ≡ length cs
count_encode_all cs = ap length (fields_encode_all cs) ∙ length-map cs encoded

-- and there are no more of them than bytes
pub count_within : (cs : List Cycle) → length cs ≤ length (encode_all cs)
unfolding encode_all
count_within [] = omega arith
count_within (c ∷ cs) = omega (arith, length-append (encode c) (encode_all cs), length_encode c, count_within cs)
