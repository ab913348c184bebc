-- The bytes of a write.
use Rattle.std.specs.Prelude.{ℕ, List, replicate}
use Rattle.h2_contents.specs.declared.payload.Payload.{Payload}
use Rattle.h2_contents.specs.declared.payload.Payload.TheVariants.{Plain, Repeat}

-- the bytes that a payload stands for
abbrev pub payload_bytes : Payload → List ℕ
payload_bytes (Plain bytes) = bytes
payload_bytes (Repeat count byte) = replicate count byte
