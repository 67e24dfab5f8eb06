-- Each public call's contract, as the compiler has it, requires nothing and determines the outcome. Assumes nothing.
use Rattle.std.proofs.Common.{refl, ap}
use Rattle.numbers.specs.Determines.{Determines}
use Rattle.numbers.specs.DeterminesLaws.{by_result, by_outcome}
use Rattle.numbers.specs.RefusalLaws.{answer_of, answer_is}
use Rattle.controller.specs.contracts.Controller.fresh as fresh
use Rattle.controller.specs.contracts.UpdateFromU32.from as of
use Rattle.controller.specs.contracts.U8FromUpdate.from as number_of
use Rattle.controller.specs.contracts.Controller.set_top_of_frame as set_top_of_frame
use Rattle.controller.specs.contracts.Controller.pan as pan
use Rattle.controller.specs.contracts.Controller.set_offset as set_offset
use Rattle.controller.specs.contracts.Controller.set_mode as set_mode
use Rattle.controller.specs.contracts.Controller.video as video
use Rattle.controller.specs.contracts.Controller.horizontal_sync as horizontal_sync
use Rattle.controller.specs.contracts.Controller.vertical_sync as vertical_sync
use Rattle.controller.specs.contracts.Controller.fetch as fetch

pub fresh_once : Determines fresh.signature (λ M 𝓤. fresh.clauses {M = M} {𝓤 = 𝓤})
fresh_once = by_result refl (λ κs a v w. refl)

pub of_once : Determines of.signature (λ M 𝓤. of.clauses {M = M} {𝓤 = 𝓤})
of_once = by_result refl (λ κs a v w. refl)

pub number_of_once : Determines number_of.signature (λ M 𝓤. number_of.clauses {M = M} {𝓤 = 𝓤})
number_of_once = by_result refl (λ κs a v w. refl)

pub set_top_of_frame_once : Determines set_top_of_frame.signature (λ M 𝓤. set_top_of_frame.clauses {M = M} {𝓤 = 𝓤})
set_top_of_frame_once = by_outcome refl (λ κs a o. (answer_of o.number o.state, (tt, (tt, tt)))) (λ κs a x. ap (λ r. (r, x.1)) (answer_is _ x.0))

pub pan_once : Determines pan.signature (λ M 𝓤. pan.clauses {M = M} {𝓤 = 𝓤})
pan_once = by_outcome refl (λ κs a o. (answer_of o.number o.state, (tt, (tt, tt)))) (λ κs a x. ap (λ r. (r, x.1)) (answer_is _ x.0))

pub set_offset_once : Determines set_offset.signature (λ M 𝓤. set_offset.clauses {M = M} {𝓤 = 𝓤})
set_offset_once = by_outcome refl (λ κs a o. (answer_of o.number o.state, (tt, (tt, tt)))) (λ κs a x. ap (λ r. (r, x.1)) (answer_is _ x.0))

pub set_mode_once : Determines set_mode.signature (λ M 𝓤. set_mode.clauses {M = M} {𝓤 = 𝓤})
set_mode_once = by_outcome refl (λ κs a o. (answer_of o.number o.state, (tt, (tt, (tt, (tt, tt)))))) (λ κs a x. ap (λ r. (r, x.1)) (answer_is _ x.0))

pub video_once : Determines video.signature (λ M 𝓤. video.clauses {M = M} {𝓤 = 𝓤})
video_once = by_outcome refl (λ κs a o. (answer_of o.number o.state, (tt, (tt, tt)))) (λ κs a x. ap (λ r. (r, x.1)) (answer_is _ x.0))

pub horizontal_sync_once : Determines horizontal_sync.signature (λ M 𝓤. horizontal_sync.clauses {M = M} {𝓤 = 𝓤})
horizontal_sync_once = by_outcome refl (λ κs a o. (answer_of o.number o.state, (tt, tt))) (λ κs a x. ap (λ r. (r, x.1)) (answer_is _ x.0))

pub vertical_sync_once : Determines vertical_sync.signature (λ M 𝓤. vertical_sync.clauses {M = M} {𝓤 = 𝓤})
vertical_sync_once = by_outcome refl (λ κs a o. (answer_of o.number o.state, (tt, tt))) (λ κs a x. ap (λ r. (r, x.1)) (answer_is _ x.0))

pub fetch_once : Determines fetch.signature (λ M 𝓤. fetch.clauses {M = M} {𝓤 = 𝓤})
fetch_once =
    by_outcome refl
    (λ κs a o. (answer_of o.number (o.state, record { bank = o.bank; row = o.row; column = o.column }), (tt, tt)))
    (λ κs a x. ap (λ r. (r, x.1)) (answer_is _ x.0))
