-- `calls::lent::Store::answered` meets its contract: each return is what the part of the call promises that it came by. Assumes nothing.
use mathlib.Core.Path.{◌≡◌, sym, ap, ◌∙◌}
use native.Mathlib.Omega.{arith}
use Rattle.record.specs.Encode.{little_bytes}
use Rattle.record.specs.Terms.{Terms}
use Rattle.store.specs.Calls.{Call}
use Rattle.store.specs.Rules.{refusal}
use Rattle.calls.specs.Mirror.{call_of, refused_number, number_in}
use Rattle.calls.specs.Lent.{store_in}
use Rattle.calls.proofs.FitLaws.{stands_fit, few}
use Rattle.calls.proofs.CalledLaws.{byte_alone, refused_small, malformed-refused, called_refused, put_makable, get_makable, delivery_copyable, called_made, called_came, called_closes}
use Rattle.calls.proofs.lent.Store.answered.Goals.{In_default}
use Rattle.calls.proofs.lent.Store.answered.Goals as goal

-- the call is not refused
passed : (c : In_default) (t : Terms) (call : Call) → call_of c.args.c ≡ call → refusal c.args.n (store_in t c.args.self.now) call ≡ 0
passed c t call is =
    let z = c.args.self.now in
    ap (refusal c.args.n (store_in t z)) (sym is) ∙ sym (c.refused.ensures t z.sees z.events) ∙ ap number_in c.in_default.is

pub refused-requires : goal.refused-requires
refused-requires c =
    let s = c.requires.stand in
    let z = c.args.self.now in
    (c.requires.n_bound, few c.args.n c.requires.n_bound s.terms z (stands_fit c.args.n c.requires.n_bound s.terms z s.stands))

pub returns-in-Err : goal.returns-in-Err
returns-in-Err c =
    let z = c.args.self.now in
    λ t h. called_refused c.args.n c.requires.n_bound t z h (call_of c.args.c) c.in-Err.refusal (sym (ap number_in c.in-Err.is) ∙ c.refused.ensures t z.sees z.events) _ (rw c.number.ensures (byte_alone (refused_number c.in-Err.refusal) (refused_small c.in-Err.refusal)))

pub put-requires : goal.put-requires
put-requires c =
    let s = c.requires.stand in
    put_makable c.args.n c.requires.n_bound s.terms c.args.self.now s.stands c.in-Put.site c.in-Put.object c.in-Put.value (passed (goal.at.put-requires c).In_default s.terms _ (ap call_of c.in-Put.is))

pub get-requires : goal.get-requires
get-requires c =
    let s = c.requires.stand in
    get_makable c.args.n c.requires.n_bound s.terms c.args.self.now s.stands c.in-Get.site c.in-Get.object (passed (goal.at.get-requires c).In_default s.terms _ (ap call_of c.in-Get.is))

pub deliver-requires : goal.deliver-requires
deliver-requires c =
    let s = c.requires.stand in
    delivery_copyable c.args.n c.requires.n_bound s.terms c.args.self.now s.stands c.in-Deliver.event c.in-Deliver.site (passed (goal.at.deliver-requires c).In_default s.terms _ (ap call_of c.in-Deliver.is))

pub unreachable-requires : goal.unreachable-requires
unreachable-requires c =
    let t = c.requires.stand.terms in
    malformed-refused c.args.n (store_in t c.args.self.now) (passed (goal.at.unreachable-requires c).In_default t _ (ap call_of c.in-Malformed.is))

pub returns-in-Put : goal.returns-in-Put
returns-in-Put c =
    let z = c.args.self.now in
    λ t h. rw c.in-Put.is (called_made c.args.n c.requires.n_bound t z h c.put.new.self (little_bytes 8 c.put.result) _ (passed (goal.at.returns-in-Put c).In_default t _ (ap call_of c.in-Put.is)) c.put.ensures)

pub returns-in-Get : goal.returns-in-Get
returns-in-Get c =
    let z = c.args.self.now in
    λ t h. rw c.in-Get.is (called_made c.args.n c.requires.n_bound t z h c.get.new.self (little_bytes 8 c.get.result) _ (passed (goal.at.returns-in-Get c).In_default t _ (ap call_of c.in-Get.is)) c.get.ensures)

pub returns-in-Deliver : goal.returns-in-Deliver
returns-in-Deliver c =
    let z = c.args.self.now in
    λ t h.
    rw c.in-Deliver.is
    (called_came c.args.n c.requires.n_bound t z h c.deliver.new.self _ c.in-Deliver.event c.in-Deliver.site (passed (goal.at.returns-in-Deliver c).In_default t _ (ap call_of c.in-Deliver.is)) c.deliver.ensures.came (byte_alone 0 (omega arith)))

pub returns-in-Close : goal.returns-in-Close
returns-in-Close c =
    let z = c.args.self.now in
    λ t h.
    rw c.in-Close.is
    (called_closes c.args.n c.requires.n_bound t z h c.close.new.self (little_bytes 8 c.closed.result) (passed (goal.at.returns-in-Close c).In_default t _ (ap call_of c.in-Close.is)) _ (c.close.ensures.closes t h) c.closed.ensures)
