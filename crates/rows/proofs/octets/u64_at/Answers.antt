-- `rows::octets::u64_at` meets its contract: `from_le_bytes` adds the bytes by their worth. Assumes nothing.
use mathlib.Core.Path.{◌∙◌}
use Rattle.rows.proofs.ByteLaws.{little_part}
use Rattle.rows.proofs.octets.u64_at.Goals as goal

pub returns : goal.returns
returns c = c.from_le_bytes.ensures ∙ little_part 7 c.args.s.now c.args.at c.bytes_at.result c.bytes_at.ensures
