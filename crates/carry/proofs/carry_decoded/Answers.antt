-- `carry::carry_decoded` meets its contract.
use Rattle.carry.proofs.carry_decoded.Goals as goal

pub carry_step-requires : goal.carry_step-requires
carry_step-requires c = record {
  on = c.requires.on;
  step_value = rw c.in-Some.is at c.requires.d_value;
}

pub returns-in-Some : goal.returns-in-Some
returns-in-Some c = rw c.in-Some.is c.carry_step.ensures
