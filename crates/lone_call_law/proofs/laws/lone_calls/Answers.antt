use Rattle.lone_call_law.proofs.Served.{lone_parts_are_served}
use Rattle.lone_call_law.proofs.LoneCalls.{lone_calls_begin, lone_parts_begin, lone_calls_go, lone_calls_lose}
use Rattle.lone_call_law.proofs.laws.lone_calls.Goals as goal

pub returns-clause-begins : goal.returns-clause-begins
returns-clause-begins c = lone_calls_begin

pub returns-clause-parts_begin : goal.returns-clause-parts_begin
returns-clause-parts_begin c = lone_parts_begin

pub returns-clause-goes : goal.returns-clause-goes
returns-clause-goes c = lone_calls_go

pub returns-clause-loses : goal.returns-clause-loses
returns-clause-loses c = lone_calls_lose

pub returns-clause-serves : goal.returns-clause-serves
returns-clause-serves c = lone_parts_are_served
