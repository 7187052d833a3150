use Rattle.alias_text.proofs.refusals.push_refusal.Goals as goal

pub returns-in-Uninitialized : goal.returns-in-Uninitialized
returns-in-Uninitialized c = rw c.in-Uninitialized.is c.push_at_numbers.ensures

pub returns-in-Reinitialized : goal.returns-in-Reinitialized
returns-in-Reinitialized c = rw c.in-Reinitialized.is c.push_at_numbers-in-Reinitialized.ensures

pub returns-in-NotSettled : goal.returns-in-NotSettled
returns-in-NotSettled c = rw c.in-NotSettled.is c.push_at_number.ensures

pub returns-in-AliasBeforeCreate : goal.returns-in-AliasBeforeCreate
returns-in-AliasBeforeCreate c = rw c.in-AliasBeforeCreate.is c.push_at_numbers-in-AliasBeforeCreate.ensures

pub returns-in-IncompatibleLibrary : goal.returns-in-IncompatibleLibrary
returns-in-IncompatibleLibrary c = rw c.in-IncompatibleLibrary.is c.push_at_instruction.ensures

pub returns-in-SpreadArgument : goal.returns-in-SpreadArgument
returns-in-SpreadArgument c = rw c.in-SpreadArgument.is c.push_at_instruction-in-SpreadArgument.ensures
