use Rattle.std.proofs.Common.{arith, inl, inr}
use Rattle.h2_script.proofs.WordFaults.{no_place_of_read, no_length, asks_too_much, is_many}
use Rattle.h2_script.proofs.arguments.handle_and_range.Goals as goal

pub returns-in_default-read_place : goal.returns-in_default-read_place
returns-in_default-read_place c = inl (no_place_of_read c.args.words.now _ c.in-Some.handle (omega arith) c.in-Some.ensures c.in_default-read_place.ensures)

pub returns-in-Some-Many : goal.returns-in-Some-Many
returns-in-Some-Many c = inr (asks_too_much c.args.words.now _ c.in-Some.handle c.in-Some-read_place.off (omega arith) c.in-Some.ensures c.in-Some-read_place.ensures (is_many _ _ c.in-Some-Many.field-0-is c.in-Some-Many.ensures))

pub returns-in-None : goal.returns-in-None
returns-in-None c = inl (no_length c.args.words.now _ c.in-Some.handle c.in-Some-read_place.off (omega arith) c.in-Some.ensures c.in-Some-read_place.ensures c.in-None.ensures)
