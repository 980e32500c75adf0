-- `command_of` meets its contract: each code gives its command, and a byte that is none of them the unknown one.
-- Assumes nothing.
use mathlib.Core.Path.{refl, sym}
use Rattle.model.specs.Command.{code_of, commands, with_code, command_of}
use Rattle.command.specs.Codes.{command_of_none}
use Rattle.command.specs.Names.{form_of, command_is}
use Rattle.command.proofs.command_of.Goals as goal

pub returns-in-84 : goal.returns-in-84
unfolding form_of command_is code_of commands with_code command_of
returns-in-84 c = rw c.in-84.is refl

pub returns-in-78 : goal.returns-in-78
unfolding form_of command_is code_of commands with_code command_of
returns-in-78 c = rw c.in-78.is refl

pub returns-in-65 : goal.returns-in-65
unfolding form_of command_is code_of commands with_code command_of
returns-in-65 c = rw c.in-65.is refl

pub returns-in-71 : goal.returns-in-71
unfolding form_of command_is code_of commands with_code command_of
returns-in-71 c = rw c.in-71.is refl

pub returns-in-69 : goal.returns-in-69
unfolding form_of command_is code_of commands with_code command_of
returns-in-69 c = rw c.in-69.is refl

pub returns-in-80 : goal.returns-in-80
unfolding form_of command_is code_of commands with_code command_of
returns-in-80 c = rw c.in-80.is refl

pub returns-in-43 : goal.returns-in-43
unfolding form_of command_is code_of commands with_code command_of
returns-in-43 c = rw c.in-43.is refl

pub returns-in-45 : goal.returns-in-45
unfolding form_of command_is code_of commands with_code command_of
returns-in-45 c = rw c.in-45.is refl

pub returns-in-87 : goal.returns-in-87
unfolding form_of command_is code_of commands with_code command_of
returns-in-87 c = rw c.in-87.is refl

pub returns-in-67 : goal.returns-in-67
unfolding form_of command_is code_of commands with_code command_of
returns-in-67 c = rw c.in-67.is refl

pub returns-in-70 : goal.returns-in-70
unfolding form_of command_is code_of commands with_code command_of
returns-in-70 c = rw c.in-70.is refl

pub returns-in_default : goal.returns-in_default
unfolding command_is code_of commands
returns-in_default c = sym (command_of_none c.args.byte (c.in_default.in_default-own.rest.0.0.0.0.0.0.0.0.0.0.1, (c.in_default.in_default-own.rest.0.0.0.0.0.0.0.0.0.1, (c.in_default.in_default-own.rest.0.0.0.0.0.0.0.0.1, (c.in_default.in_default-own.rest.0.0.0.0.0.0.0.1, (c.in_default.in_default-own.rest.0.0.0.0.0.0.1, (c.in_default.in_default-own.rest.0.0.0.0.0.1, (c.in_default.in_default-own.rest.0.0.0.0.1, (c.in_default.in_default-own.rest.0.0.0.1, (c.in_default.in_default-own.rest.0.0.1, (c.in_default.in_default-own.rest.0.1, (c.in_default.in_default-own.rest.1, tt))))))))))))
