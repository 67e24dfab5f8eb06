-- The pipe: what comes out is what was asked for three accepted pixels before, with the table as it was then. Assumes nothing.
use Rattle.std.specs.Prelude.{◌≡◌, refl, Bool, ℕ, zero, suc, ◌+◌, ◌<◌, eqb, length, get_or}
use Rattle.std.proofs.Common.{sym, ◌∙◌, arith, List, [], ◌∷◌, ◌++◌, map}
use Rattle.std.proofs.Math.Path.{ap}
use Rattle.std.proofs.Math.Bool.{true, false, cond}
use Rattle.std.proofs.lemmas.List.{length-map}
use Rattle.std.proofs.Math.ListN.{get_or-append}
use Rattle.colours.specs.declared.Output.{Output}
use Rattle.colours.specs.declared.Output.TheVariants.{Blank}
use Rattle.colours.specs.declared.Inputs.{Inputs}
use Rattle.colours.specs.Output.{zeros}
use Rattle.colours.specs.State.{fresh, moved, pipe}
use Rattle.colours.specs.Calls.{pixel_refusal, asks_at, pixel_call}
use Rattle.colours.proofs.StateLaws.{write_pipe, low_pipe, high_pipe}
use Rattle.colours.specs.Session.{Board, board, Event, Write, WriteLow, WriteHigh, Pixel, Lend, after, session, Passed, asked, came, passing, passed}

-- ---- writes, and a table that is changed under way, move nothing that is on its way

-- no pixel
abbrev pub NotPixel : Event → Type 0
NotPixel (Write address value) = Unit {0}
NotPixel (WriteLow low) = Unit {0}
NotPixel (WriteHigh address high) = Unit {0}
NotPixel (Pixel i) = ⊥
NotPixel (Lend t) = Unit {0}

pub after_pipe : (e : Event) (b : Board) → NotPixel e → pipe (after e b).state ≡ pipe b.state
after_pipe (Write address value) b q = write_pipe b.state b.table address value
after_pipe (WriteLow low) b q = low_pipe b.state low
after_pipe (WriteHigh address high) b q = high_pipe b.state b.table address high
after_pipe (Pixel i) b q = absurd q
after_pipe (Lend t) b q = refl

abbrev pub NoPixel : List Event → Type 0
NoPixel [] = Unit {0}
NoPixel (e ∷ es) = NotPixel e × NoPixel es

pub pipe_waits : (es : List Event) (b : Board) → NoPixel es → pipe (session es b).state ≡ pipe b.state
pipe_waits [] b q = refl
pipe_waits (e ∷ es) b q = pipe_waits es (after e b) q.1 ∙ after_pipe e b q.0

-- ---- the delay

-- what came out for accepted pixels, and then what is on its way, is what was on its way, and then what they asked for
abbrev pub Delayed : List Passed → List Output → List Output → Type 0
Delayed ps before behind = map came ps ++ behind ≡ before ++ map asked ps

-- one event more, in front
module _ (b : Board) (ps : List Passed) (behind : List Output) where
  pixel_first : (i : Inputs) → Delayed ps (pipe (after (Pixel i) b).state) behind → Delayed (passing (Pixel i) b ps) (pipe b.state) behind
  unfolding pixel_call
  pixel_first i = go (eqb (pixel_refusal b.state (length b.table) i.address) 0)
    where
      go : (t : Bool)
          → Delayed ps (pipe (cond t (moved b.state (asks_at b.table i)) b.state)) behind
          → Delayed
          (cond t (record { inputs = i; table = b.table; output = cond t b.state.first zeros } ∷ ps) ps)
          (pipe b.state) behind
      go true e = ap (λ (l : List Output). b.state.first ∷ l) e
      go false e = e

  other_first : (e : Event) → NotPixel e → Delayed ps (pipe (after e b).state) behind → Delayed ps (pipe b.state) behind
  other_first e q d = d ∙ ap (λ (l : List Output). l ++ map asked ps) (after_pipe e b q)

  event_first : (e : Event) → Delayed ps (pipe (after e b).state) behind → Delayed (passing e b ps) (pipe b.state) behind
  event_first (Write address value) d = other_first (Write address value) tt d
  event_first (WriteLow low) d = other_first (WriteLow low) tt d
  event_first (WriteHigh address high) d = other_first (WriteHigh address high) tt d
  event_first (Pixel i) d = pixel_first i d
  event_first (Lend t) d = d

-- in every session, of any length, with calls accepted and refused, from any state
pub pipe_delays : (es : List Event) (b : Board) → Delayed (passed es b) (pipe b.state) (pipe (session es b).state)
pipe_delays [] b = refl
pipe_delays (e ∷ es) b =
    event_first b (passed es (after e b)) (pipe (session es (after e b)).state) e (pipe_delays es (after e b))

-- ---- by place. d stands past the end of a list, where no law looks

-- as `List·getD-map`, with another stand-in for each list
pub mapped_at : {A B : Type 0} (f : A → B) (l : List A) (k : ℕ) (d : A) (e : B) → k < length l → get_or (map f l) k e ≡ f (get_or l k d)
mapped_at f [] k d e h = absurd (omega arith)
mapped_at f (x ∷ l) zero d e h = refl
mapped_at f (x ∷ l) (suc k) d e h = mapped_at f l k d e (omega arith)

-- output k is place k of what was on its way, and then of what was asked for
pub came_at : (es : List Event) (b : Board) (d : Passed) (k : ℕ) → k < length (passed es b)
    → came (get_or (passed es b) k d) ≡ get_or (pipe b.state ++ map asked (passed es b)) k Blank
came_at es b d k h =
    let out = map came (passed es b) in
    let l : k < length out = rw (length-map (passed es b)) h in
    sym (mapped_at came (passed es b) k d Blank h)
    ∙ sym (get_or-append out (pipe (session es b).state) Blank k l)
    ∙ ap (λ (o : List Output). get_or o k Blank) (pipe_delays es b)

module _ (es : List Event) (b : Board) (d : Passed) where
  -- from any state the first three are those on their way
  pub first_three : (k : ℕ) → k < 3 → k < length (passed es b) → came (get_or (passed es b) k d) ≡ get_or (pipe b.state) k Blank
  first_three zero l h = came_at es b d zero h
  first_three (suc zero) l h = came_at es b d (suc zero) h
  first_three (suc (suc zero)) l h = came_at es b d (suc (suc zero)) h
  first_three (suc (suc (suc k))) l h = absurd (omega arith)

  -- and then each is what the inputs of the third pixel before asked for, with the table as it was when they entered
  pub three_later : (k : ℕ) → k + 3 < length (passed es b) → came (get_or (passed es b) (k + 3) d) ≡ asked (get_or (passed es b) k d)
  three_later k h =
      let e : k + 3 ≡ suc (suc (suc k)) = omega arith in
      came_at es b d (k + 3) h
      ∙ ap (λ (n : ℕ). get_or (pipe b.state ++ map asked (passed es b)) n Blank) e
      ∙ mapped_at asked (passed es b) k d Blank (omega arith)

-- after `fresh` the first three outputs are at blank level
pub first_blank : (es : List Event) (t : List ℕ) (d : Passed) (k : ℕ) → k < 3 → k < length (passed es (board fresh t))
    → came (get_or (passed es (board fresh t)) k d) ≡ Blank
first_blank es t d k l h = first_three es (board fresh t) d k l h ∙ blank_at k
  where
    blank_at : (k : ℕ) → get_or (pipe fresh) k Blank ≡ Blank
    blank_at zero = refl
    blank_at (suc zero) = refl
    blank_at (suc (suc zero)) = refl
    blank_at (suc (suc (suc k))) = refl
