-- Each export's contract, as the compiler has it, is that of the call below, which requires nothing and determines the outcome. Assumes nothing.
use Rattle.numbers.specs.Determines.{Determines}
use Rattle.controller_c.proofs.Once.{fresh_once as controller_c_fresh_once, set_top_of_frame_once as controller_c_set_top_of_frame_once, pan_once as controller_c_pan_once, set_offset_once as controller_c_set_offset_once, set_mode_once as controller_c_set_mode_once, video_once as controller_c_video_once, horizontal_sync_once as controller_c_horizontal_sync_once, vertical_sync_once as controller_c_vertical_sync_once, fetch_once as controller_c_fetch_once}
use Rattle.controller_archive.specs.contracts.linkshoar_controller_fresh as controller_fresh
use Rattle.controller_archive.specs.contracts.linkshoar_controller_set_top_of_frame as controller_set_top_of_frame
use Rattle.controller_archive.specs.contracts.linkshoar_controller_pan as controller_pan
use Rattle.controller_archive.specs.contracts.linkshoar_controller_set_offset as controller_set_offset
use Rattle.controller_archive.specs.contracts.linkshoar_controller_set_mode as controller_set_mode
use Rattle.controller_archive.specs.contracts.linkshoar_controller_video as controller_video
use Rattle.controller_archive.specs.contracts.linkshoar_controller_horizontal_sync as controller_horizontal_sync
use Rattle.controller_archive.specs.contracts.linkshoar_controller_vertical_sync as controller_vertical_sync
use Rattle.controller_archive.specs.contracts.linkshoar_controller_fetch as controller_fetch

pub controller_fresh_once : Determines controller_fresh.signature (λ M 𝓤. controller_fresh.clauses {M = M} {𝓤 = 𝓤})
controller_fresh_once = controller_c_fresh_once

pub controller_set_top_of_frame_once : Determines controller_set_top_of_frame.signature (λ M 𝓤. controller_set_top_of_frame.clauses {M = M} {𝓤 = 𝓤})
controller_set_top_of_frame_once = controller_c_set_top_of_frame_once

pub controller_pan_once : Determines controller_pan.signature (λ M 𝓤. controller_pan.clauses {M = M} {𝓤 = 𝓤})
controller_pan_once = controller_c_pan_once

pub controller_set_offset_once : Determines controller_set_offset.signature (λ M 𝓤. controller_set_offset.clauses {M = M} {𝓤 = 𝓤})
controller_set_offset_once = controller_c_set_offset_once

pub controller_set_mode_once : Determines controller_set_mode.signature (λ M 𝓤. controller_set_mode.clauses {M = M} {𝓤 = 𝓤})
controller_set_mode_once = controller_c_set_mode_once

pub controller_video_once : Determines controller_video.signature (λ M 𝓤. controller_video.clauses {M = M} {𝓤 = 𝓤})
controller_video_once = controller_c_video_once

pub controller_horizontal_sync_once : Determines controller_horizontal_sync.signature (λ M 𝓤. controller_horizontal_sync.clauses {M = M} {𝓤 = 𝓤})
controller_horizontal_sync_once = controller_c_horizontal_sync_once

pub controller_vertical_sync_once : Determines controller_vertical_sync.signature (λ M 𝓤. controller_vertical_sync.clauses {M = M} {𝓤 = 𝓤})
controller_vertical_sync_once = controller_c_vertical_sync_once

pub controller_fetch_once : Determines controller_fetch.signature (λ M 𝓤. controller_fetch.clauses {M = M} {𝓤 = 𝓤})
controller_fetch_once = controller_c_fetch_once
