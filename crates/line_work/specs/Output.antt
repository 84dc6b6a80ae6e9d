-- Lines of output.
use Rattle.std.specs.Prelude.{ℕ, List, [], ◌∷◌, ◌++◌}
use Rattle.std.specs.List.{flat_map}
use Rattle.script_text.specs.Escaping.{escape_text}

-- a frame to a member: his name, a space and the frame's text
unfoldable pub frame_line : List ℕ → List ℕ → List ℕ
frame_line name frame = name ++ (32 ∷ []) ++ escape_text frame ++ (10 ∷ [])

-- frames to a member, one in a line
unfoldable pub frame_lines : List ℕ → List (List ℕ) → List ℕ
frame_lines name frames = flat_map (frame_line name) frames
