-- The formats of a log. They differ in the width of a mask.
use Rattle.std.specs.Prelude.{ℕ}
use Rattle.std.specs.Int.{Width, w16, w32}
use Rattle.tau_base.specs.Modes as modes
use Rattle.tau_base.specs.declared.format.Format as declared
use Rattle.tau_base.specs.declared.format.Format.TheVariants as formats

abbrev pub Format : Type 0
Format = declared.Format

abbrev pub One : Format
One = formats.One

abbrev pub Two : Format
Two = formats.Two

unfoldable pub mask_width : Format → Width
mask_width formats.One = w16
mask_width formats.Two = w32

-- the most streams of a format, which are the bits of a mask
abbrev pub most_streams : Format → ℕ
most_streams f = modes.most_streams f
