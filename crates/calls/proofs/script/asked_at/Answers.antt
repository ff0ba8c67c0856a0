-- `calls::script::asked_at` meets its contract: each return is one case of the fields of the word. Assumes nothing.
use native.Mathlib.Omega.{arith}
use Rattle.calls.proofs.CallLaws.{asked_put, asked_no_put, asked_get, asked_no_get, asked_deliver, asked_late, asked_gap, asked_close, asked_none}
use Rattle.calls.proofs.script.asked_at.Goals as goal

pub returns-then-x-eq0 : goal.returns-then-x-eq0
returns-then-x-eq0 c = asked_put c.args.s.now (λ i. (c.type_inv.s i).fits) c.args.at _ c.u64_at-x.ensures c.if-kind-eq1.true c.if-x-eq0.true

pub returns-else-x-eq0 : goal.returns-else-x-eq0
returns-else-x-eq0 c = asked_no_put c.args.s.now (λ i. (c.type_inv.s i).fits) c.args.at _ c.u64_at-x.ensures c.if-kind-eq1.true c.if-x-eq0.false

pub returns-then-x-eq4 : goal.returns-then-x-eq4
returns-then-x-eq4 c = asked_close c.args.s.now (λ i. (c.type_inv.s i).fits) c.args.at _ c.u64_at-x.ensures c.if-x-eq4.true

pub returns-in-2 : goal.returns-in-2
returns-in-2 c = asked_get c.args.s.now (λ i. (c.type_inv.s i).fits) c.args.at _ c.u64_at-x.ensures c.in-2.is c.if-x-eq0-2.true

pub returns-in-3 : goal.returns-in-3
returns-in-3 c = asked_deliver c.args.s.now (λ i. (c.type_inv.s i).fits) c.args.at _ c.u64_at-x.ensures c.in-3.is c.if-x-eq0-3.true c.if-x-eq0-4.true

pub returns-in_default : goal.returns-in_default
returns-in_default c = asked_no_get c.args.s.now (λ i. (c.type_inv.s i).fits) c.args.at _ c.u64_at-x.ensures c.in-2.is c.if-x-eq0-2.false

pub returns-in_default-2 : goal.returns-in_default-2
returns-in_default-2 c = asked_late c.args.s.now (λ i. (c.type_inv.s i).fits) c.args.at _ c.u64_at-x.ensures c.in-3.is c.if-x-eq0-3.true c.if-x-eq0-4.false

pub returns-in_default-3 : goal.returns-in_default-3
returns-in_default-3 c = asked_gap c.args.s.now (λ i. (c.type_inv.s i).fits) c.args.at _ c.u64_at-x.ensures c.in-3.is c.if-x-eq0-3.false

pub returns-in_default-4 : goal.returns-in_default-4
returns-in_default-4 c = asked_none c.args.s.now (λ i. (c.type_inv.s i).fits) c.args.at _ c.u64_at-x.ensures (λ q. omega arith) (λ q. omega arith) (λ q. omega arith) c.if-x-eq4.false
