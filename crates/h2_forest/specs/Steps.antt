-- How a command's refusals stand one after the other.
use Rattle.std.specs.Prelude.{Bool, cond, Result, Ok, Err, Option, Some, None}
use Rattle.h2_command.specs.declared.reply.Reply.{Reply}

module _ {S : Type 0} where
  -- goes on with a value, or refuses and leaves s as it is
  abbrev pub on : {A : Type 0} → S → Result A Reply → (A → Reply × S) → Reply × S
  on s (Ok x) go = go x
  on s (Err refusal) go = (refusal, s)

  -- goes on with what is there, or refuses
  abbrev pub given : {A : Type 0} → S → Option A → Reply → (A → Reply × S) → Reply × S
  given s (Some x) refusal go = go x
  given s None refusal go = (refusal, s)

  -- refuses where the test holds
  abbrev pub refuse : S → Bool → Reply → Reply × S → Reply × S
  refuse s test refusal rest = cond test (refusal, s) rest
