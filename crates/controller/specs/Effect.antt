-- What each call does where nothing is refused: change request M-100. Assumes nothing.
use Rattle.std.specs.Prelude.{ℕ, ◌+◌, ◌%◌, Bool, true, false, cond, not, ◌&&◌, ◌||◌}
use Rattle.controller.specs.declared.Controller.{Controller}
use Rattle.controller.specs.State.{with_counter, with_offset, with_refresh, with_video, overrides}
use Rattle.controller.specs.Address.{wrap}

-- setting the Offset also puts counter, refresh counter and video to zero and ends the inhibition
abbrev pub offset_set : Controller → ℕ → Controller
offset_set s o = with_video (with_refresh (with_counter (with_offset s o) 0) 0) false false

-- video on or off; what is inhibited stays so, unless video goes from off to on
abbrev pub video_set : Controller → Bool → Controller
video_set s on = with_video s on (s.inhibited && (s.video || not on))

-- horizontal sync: the counter is raised by the Offset, but not while inhibited and not in override
abbrev pub advanced : Controller → Controller
advanced s = cond (s.inhibited || overrides s.update) s (with_counter s (wrap (s.counter + s.offset)))

-- horizontal sync: each refresh cycle raises the 8-bit refresh counter by one
abbrev pub refreshed : Controller → Controller
refreshed s = with_refresh s ((s.refresh + s.cycles) % 256)

-- vertical sync: the counter is loaded from Top of Frame, and additions are inhibited
abbrev pub framed : Controller → Controller
framed s = with_video (with_counter s s.top) s.video true

-- a word fetched: the counter is raised by one
abbrev pub stepped : Controller → Controller
stepped s = with_counter s (wrap (s.counter + 1))
