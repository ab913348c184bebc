-- Kinds of replies.
use Rattle.std.specs.Prelude.{Bool, true, false}
use Rattle.h2_command.specs.declared.reply.Reply.{Reply}
use Rattle.h2_command.specs.declared.reply.Reply.TheVariants.{List, Dir, File, Handle, Got, Wrote, Bulk, Pfs, InUse, Running, NoSpace, Io, BadBlock, NoMemory}
use Rattle.h2_command.specs.declared.same.Group.{Group}
use Rattle.h2_command.specs.declared.same.Group.TheVariants.{Lists, Inodes, Numbers, Words, Outside}

-- the refusals from outside, which change nothing in the forest and the handles
abbrev pub is_outside : Reply → Bool
is_outside (Running client) = true
is_outside (NoSpace need free) = true
is_outside (Io before after) = true
is_outside (BadBlock place why) = true
is_outside NoMemory = true
is_outside _ = false

-- what a reply carries, by which replies are compared: names or bytes, what is told of an inode, numbers, or nothing. Those from outside are a group of their own
abbrev pub group_of : Reply → Group
group_of (List names) = Lists
group_of (Pfs names) = Lists
group_of (Got bytes) = Lists
group_of (Dir number entries) = Inodes
group_of (File number links size) = Inodes
group_of (Handle number) = Numbers
group_of (Wrote count) = Numbers
group_of (Bulk seen staged freed) = Numbers
group_of (InUse handles) = Numbers
group_of (Running client) = Outside
group_of (NoSpace need free) = Outside
group_of (Io before after) = Outside
group_of (BadBlock place why) = Outside
group_of NoMemory = Outside
group_of _ = Words
