-- Each export's contract, as the compiler has it, requires nothing and determines the outcome. Assumes nothing.
use Rattle.std.proofs.Common.{refl}
use Rattle.numbers.specs.Determines.{Determines}
use Rattle.numbers.specs.DeterminesLaws.{by_result}
use Rattle.controller_c.specs.contracts.linkshoar_controller_fresh as fresh
use Rattle.controller_c.specs.contracts.linkshoar_controller_set_top_of_frame as set_top_of_frame
use Rattle.controller_c.specs.contracts.linkshoar_controller_pan as pan
use Rattle.controller_c.specs.contracts.linkshoar_controller_set_offset as set_offset
use Rattle.controller_c.specs.contracts.linkshoar_controller_set_mode as set_mode
use Rattle.controller_c.specs.contracts.linkshoar_controller_video as video
use Rattle.controller_c.specs.contracts.linkshoar_controller_horizontal_sync as horizontal_sync
use Rattle.controller_c.specs.contracts.linkshoar_controller_vertical_sync as vertical_sync
use Rattle.controller_c.specs.contracts.linkshoar_controller_fetch as fetch
use Rattle.controller_c.specs.contracts.state.ControllerTryFromHeld.try_from as take
use Rattle.controller_c.specs.contracts.state.HeldFromController.from as hand

pub take_once : Determines take.signature (λ M 𝓤. take.clauses {M = M} {𝓤 = 𝓤})
take_once = by_result refl (λ κs a v w. refl)

pub hand_once : Determines hand.signature (λ M 𝓤. hand.clauses {M = M} {𝓤 = 𝓤})
hand_once = by_result refl (λ κs a v w. refl)

pub fresh_once : Determines fresh.signature (λ M 𝓤. fresh.clauses {M = M} {𝓤 = 𝓤})
fresh_once = by_result refl (λ κs a v w. refl)

pub set_top_of_frame_once : Determines set_top_of_frame.signature (λ M 𝓤. set_top_of_frame.clauses {M = M} {𝓤 = 𝓤})
set_top_of_frame_once = by_result refl (λ κs a v w. refl)

pub pan_once : Determines pan.signature (λ M 𝓤. pan.clauses {M = M} {𝓤 = 𝓤})
pan_once = by_result refl (λ κs a v w. refl)

pub set_offset_once : Determines set_offset.signature (λ M 𝓤. set_offset.clauses {M = M} {𝓤 = 𝓤})
set_offset_once = by_result refl (λ κs a v w. refl)

pub set_mode_once : Determines set_mode.signature (λ M 𝓤. set_mode.clauses {M = M} {𝓤 = 𝓤})
set_mode_once = by_result refl (λ κs a v w. refl)

pub video_once : Determines video.signature (λ M 𝓤. video.clauses {M = M} {𝓤 = 𝓤})
video_once = by_result refl (λ κs a v w. refl)

pub horizontal_sync_once : Determines horizontal_sync.signature (λ M 𝓤. horizontal_sync.clauses {M = M} {𝓤 = 𝓤})
horizontal_sync_once = by_result refl (λ κs a v w. refl)

pub vertical_sync_once : Determines vertical_sync.signature (λ M 𝓤. vertical_sync.clauses {M = M} {𝓤 = 𝓤})
vertical_sync_once = by_result refl (λ κs a v w. refl)

pub fetch_once : Determines fetch.signature (λ M 𝓤. fetch.clauses {M = M} {𝓤 = 𝓤})
fetch_once = by_result refl (λ κs a v w. refl)
