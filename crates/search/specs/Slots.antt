-- That the slots of a search fit in memory.
use Rattle.std.specs.Prelude.{◌*◌, ◌^◌, ◌<◌}
use Rattle.std.specs.Borrow.{RattleType}
use denote.Param.{layout}
use prog.Memory.{size}

-- 128 values of the type are less than half of all memory
abbrev pub Small : RattleType → Type 0
Small R = 128 * size (layout R) < 2 ^ 63
