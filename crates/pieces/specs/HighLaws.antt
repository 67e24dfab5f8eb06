-- A list in pieces on two boards that differ in low bytes alone: the same answers, the same line between the pieces, and high bytes that
-- agree; for every line, also one that no pieces could make, and for every piece. Change request M-110. Assumes nothing.
use Rattle.std.specs.Prelude.{◌≡◌, refl, Bool, cond, ℕ, ◌+◌, eqb, ltb}
use Rattle.std.proofs.Common.{ap₂, List, [], ◌∷◌, ◌++◌}
use Rattle.std.proofs.Math.Bool.{true, false}
use Rattle.std.proofs.Math.ListN.{length}
use Rattle.vram.specs.Board.{Board, effect}
use Rattle.vram.specs.High.{Twins}
use Rattle.vram.proofs.HighLaws.{agree_length, effect_twins, step_twins}
use Rattle.list.specs.Meaning.{Bad}
use Rattle.std.specs.Prelude.{Option}
use Rattle.list.specs.Fields.{Field, Reads, Unreadable, field_of, size_of}
use Rattle.list.specs.Open.{open_by}
use Rattle.list.specs.Meaning.{bad}
use Rattle.list.specs.Waits.{waits}
use Rattle.pieces.specs.declared.Pieces.{Pieces}
use Rattle.pieces.specs.Line.{Line, line, refused, fresh, Port, port, limit, number_on, draws, met, come, feed, piece, at_last}
use Rattle.pieces.specs.Pieces.{pack, unpack}
use Rattle.pieces.specs.Calls.{Outcome, gives, first_number, fed, take_call, end_call}
use Rattle.pieces.specs.Cutting.{answers, ends}

-- ---- a byte

-- the same line, on boards that differ in low bytes alone
record TwinPorts (p q : Port) : Type 0 where
  pub line : p.line ≡ q.line
  pub on : Twins p.on q.on

module _ {a b : Board} (t : Twins a b) where
  number_on_alike : (f : Field) → number_on f a ≡ number_on f b
  number_on_alike f = rw (t.state, agree_length t.memory)

  draws_twins : (f : Field) → Twins (draws f a) (draws f b)
  unfolding draws
  draws_twins (Reads c n) = step_twins effect effect_twins c a b t
  draws_twins Unreadable = t

  met_ports : (at : ℕ) (f : Field) (left : Option ℕ) → TwinPorts (met at f left a) (met at f left b)
  unfolding met
  met_ports at f left = rw (number_on_alike f) (go (eqb (number_on f b) 0))
    where
      next : Line
      next = line [] (at + size_of f) 0 (open_by at f left)

      go : (u : Bool) → TwinPorts (cond u (port next (draws f a)) (port (refused (number_on f b) at) a)) (cond u (port next (draws f b)) (port (refused (number_on f b) at) b))
      go true = record { line = refl; on = draws_twins f }
      go false = record { line = refl; on = t }

  come_ports : (at : ℕ) (s : List ℕ) (left : Option ℕ) → TwinPorts (come at s left a) (come at s left b)
  unfolding come
  come_ports at s left = go (waits s)
    where
      go : (u : Bool) → TwinPorts (cond u (port (line s at 0 left) a) (met at (field_of s) left a)) (cond u (port (line s at 0 left) b) (met at (field_of s) left b))
      go true = record { line = refl; on = t }
      go false = met_ports at (field_of s) left

  -- on the line l
  on_ports : (l : Line) (x : ℕ) → TwinPorts (feed (port l a) x) (feed (port l b) x)
  unfolding feed
  on_ports l x = go (eqb l.number 0) (ltb (l.start + length l.held) limit)
    where
      come_on : Board → Port
      come_on = come l.start (l.held ++ x ∷ []) l.left

      over : Board → Port
      over = port (refused 4 l.start)

      go : (u v : Bool) → TwinPorts (cond u (cond v (come_on a) (over a)) (port l a)) (cond u (cond v (come_on b) (over b)) (port l b))
      go true true = come_ports l.start (l.held ++ x ∷ []) l.left
      go true false = record { line = refl; on = t }
      go false v = record { line = refl; on = t }

feed_ports : (x : ℕ) {p q : Port} → TwinPorts p q → TwinPorts (feed p x) (feed q x)
feed_ports x {p} {q} k = rw k.line (on_ports k.on q.line x)

piece_ports : (s : List ℕ) {p q : Port} → TwinPorts p q → TwinPorts (piece p s) (piece q s)
piece_ports [] k = k
piece_ports (x ∷ s) k = piece_ports s (feed_ports x k)

-- ---- the calls

-- what is answered and what is kept of the list are the same
pub record TwinOutcomes (o u : Outcome) : Type 0 where
  pub given : o.given ≡ u.given
  pub pieces : o.pieces ≡ u.pieces
  pub after : Twins o.after u.after

module _ (p : Pieces) {a b : Board} (t : Twins a b) where
  first_twins : first_number p a ≡ first_number p b
  unfolding first_number
  first_twins = rw (t.state, agree_length t.memory, agree_length t.serial)

  -- 1 to 3, or what the call makes
  unless_twins : (o u : Outcome) → TwinOutcomes o u
      → (let n = first_number p b in TwinOutcomes (cond (eqb n 0) o (gives (bad n 0) p a)) (cond (eqb n 0) u (gives (bad n 0) p b)))
  unless_twins o u made = go (eqb (first_number p b) 0)
    where
      go : (v : Bool) → (let n = first_number p b in TwinOutcomes (cond v o (gives (bad n 0) p a)) (cond v u (gives (bad n 0) p b)))
      go true = made
      go false = record { given = refl; pieces = refl; after = t }

  pub take_twins : (s : List ℕ) → TwinOutcomes (take_call p s a) (take_call p s b)
  unfolding take_call
  take_twins s =
      let k = piece_ports s {p = port (unpack p) a} {q = port (unpack p) b} (record { line = refl; on = t }) in
      rw first_twins (unless_twins (fed (piece (port (unpack p) a) s)) (fed (piece (port (unpack p) b) s))
      (record { given = rw k.line; pieces = rw k.line; after = k.on }))

  pub end_twins : TwinOutcomes (end_call p a) (end_call p b)
  unfolding end_call
  end_twins =
      rw first_twins (unless_twins (gives (at_last (unpack p)) (pack fresh) a) (gives (at_last (unpack p)) (pack fresh) b)
      (record { given = refl; pieces = refl; after = t }))

-- ---- pieces one after the other, and then the last call

pub answers_twins : (ss : List (List ℕ)) (p : Pieces) {a b : Board} → Twins a b → answers ss p a ≡ answers ss p b
unfolding answers
answers_twins [] p t = refl
answers_twins (s ∷ ss) p {a} {b} t =
    let k = take_twins p t s in
    ap₂ (λ (v : Bad) (vs : List Bad). v ∷ vs) k.given (rw k.pieces (answers_twins ss (take_call p s b).pieces k.after))

pub ends_twins : (ss : List (List ℕ)) (p : Pieces) {a b : Board} → Twins a b → TwinOutcomes (ends ss p a) (ends ss p b)
unfolding ends
ends_twins [] p t = end_twins p t
ends_twins (s ∷ ss) p {a} {b} t = let k = take_twins p t s in rw k.pieces (ends_twins ss (take_call p s b).pieces k.after)
