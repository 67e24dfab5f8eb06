-- What each call answers and leaves, for every input. Assumes nothing.
use Rattle.std.specs.Prelude.{ℕ, List}
use Rattle.numbers.specs.Refuse.{refuse, leaves}
use Rattle.vram.specs.declared.Vram.{Vram}
use Rattle.vram.specs.Board.{Board, board}
use Rattle.vram.specs.Step.{given_of}
use Rattle.list.specs.Meaning.{Bad}
use Rattle.list.specs.Meaning.{bad, bad_of}
use Rattle.pieces.specs.declared.Pieces.{Pieces}
use Rattle.pieces.specs.declared.Taken.{Taken as Gave}
use Rattle.pieces.specs.Line.{fresh, Port, port, piece, so_far, at_last}
use Rattle.pieces.specs.Pieces.{pack, unpack, sound}

-- the state after a piece or the last call, where the list stands, the number given back, and the offset of the field that it is about
pub record Taken : Type 0 where
  pub state : Vram
  pub pieces : Pieces
  pub number : ℕ
  pub place : ℕ

abbrev pub taken_of : Gave → Taken
taken_of r = record { state = r.state; pieces = r.pieces; number = (bad_of r.answer).number; place = (bad_of r.answer).place }

-- number and place, what is kept of the list, and the board afterwards
pub record Outcome : Type 0 where
  pub given : Bad
  pub pieces : Pieces
  pub after : Board

abbrev pub gives : Bad → Pieces → Board → Outcome
gives v p b = record { given = v; pieces = p; after = b }

abbrev pub outcome : Taken → List ℕ → List ℕ → Outcome
outcome r m q = gives (bad r.number r.place) r.pieces (board r.state m q)

-- before any byte: 1 for what no pieces could make, then 1 to 3
unfoldable pub first_number : Pieces → Board → ℕ
first_number p b = refuse (sound p) 1 (given_of b)

-- on these nothing changes, and the list goes on
abbrev pub unless : Pieces → Board → Outcome → Outcome
unless p b made = let n = first_number p b in leaves n (gives (bad n 0) p b) made

-- ---- the calls

abbrev pub fed : Port → Outcome
fed o = gives (so_far o.line) (pack o.line) o.on

-- a piece
unfoldable pub take_call : Pieces → List ℕ → Board → Outcome
take_call p s b = unless p b (fed (piece (port (unpack p) b) s))

-- the list is over; the next piece starts a new one
unfoldable pub end_call : Pieces → Board → Outcome
end_call p b = unless p b (gives (at_last (unpack p)) (pack fresh) b)
