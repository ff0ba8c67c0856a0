-- The calls that the bytes of a script stand for, malformed ones included.
use Rattle.std.specs.Prelude.{cond, ◌&&◌, List, [], ◌∷◌, ℕ, zero, suc, ◌+◌, ◌/◌, eqb, length}
use Rattle.rows.specs.Octets.{little}
use Rattle.record.specs.Layout.{byte}

pub data Call : Type 0 where
  put : (site object v : ℕ) → Call
  get : (site object : ℕ) → Call
  -- put w to site t
  deliver : (w t : ℕ) → Call
  -- close of trading: to each site every put that it lacks
  close : Call
  malformed : Call

-- 8 bytes: kind (1 put, 2 get, 3 deliver, 4 close), site, object, zero, then a put's value, a get's zeros, or a delivery's event and zeros;
-- after a close's kind all are zero
unfoldable pub call_at : List ℕ → ℕ → Call
call_at s at =
    cond (eqb (byte s (at + 3)) 0)
    (cond (eqb (byte s at) 1) (put (byte s (at + 1)) (byte s (at + 2)) (little 4 s (at + 4)))
    (cond (eqb (byte s at) 2 && eqb (little 4 s (at + 4)) 0) (get (byte s (at + 1)) (byte s (at + 2)))
    (cond (eqb (byte s at) 3 && (eqb (byte s (at + 2)) 0 && eqb (little 2 s (at + 6)) 0)) (deliver (little 2 s (at + 4)) (byte s (at + 1)))
    (cond (eqb (byte s at) 4 && (eqb (byte s (at + 1)) 0 && (eqb (byte s (at + 2)) 0 && eqb (little 4 s (at + 4)) 0))) close
    malformed))))
    malformed

-- k calls from byte `at` on
unfoldable pub calls_from : ℕ → List ℕ → ℕ → List Call
calls_from zero s at = []
calls_from (suc k) s at = call_at s at ∷ calls_from k s (at + 8)

unfoldable pub calls_of : List ℕ → List Call
calls_of s = calls_from (length s / 8) s 0
