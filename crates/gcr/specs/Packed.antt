-- A rehearsal's result as a host's number: number + 256 × length + 16,777,216 × outstanding.
use Rattle.std.specs.Prelude.{ℕ, ◌+◌, ◌*◌, ◌/◌, ◌%◌}
use Rattle.store.specs.Rehearsal.{InNumbers}

unfoldable pub packed_rehearsal : InNumbers → ℕ
packed_rehearsal r = r.number + 256 * r.length + 16777216 * r.outstanding

-- read back
unfoldable pub unpacked_rehearsal : ℕ → InNumbers
unpacked_rehearsal p = record { number = p % 256; length = p / 256 % 65536; outstanding = p / 16777216 }
