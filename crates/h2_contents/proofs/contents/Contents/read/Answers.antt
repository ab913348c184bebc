use Rattle.std.proofs.Common.{◌≡◌, ap, sym, ◌∙◌, ◌+◌, arith, length}
use Rattle.std.specs.Prelude.{min, ◌-◌}
use Rattle.h2_contents.specs.Bytes.{read_at}
use Rattle.h2_contents.specs.ByteLaws.{window_is_read, whole_window, read_past}
use Rattle.h2_contents.specs.Pages.{byte_in, first_bytes}
use Rattle.h2_contents.specs.PageLaws.{length-first_bytes, kept_at}
use Rattle.h2_contents.proofs.contents.Contents.read.Goals as goal

pub returns-then-off-self : goal.returns-then-off-self
returns-then-off-self c =
    let long = length-first_bytes (byte_in c.self.inside.pages) c.self.inside.size in
    c.from_vec.ensures ∙ c.new.ensures.items
    ∙ read_past (first_bytes (byte_in c.self.inside.pages) c.self.inside.size) c.args.off c.args.len (omega arith)
    ∙ ap (λ bytes. read_at bytes c.args.off c.args.len) c.self.view_is

pub returns : goal.returns
returns c =
    let size = length-first_bytes (byte_in c.self.inside.pages) c.self.inside.size in
    let long : length c.show_pages.new.window ≡ min (length (first_bytes (byte_in c.self.inside.pages) c.self.inside.size) - c.args.off) c.args.len = omega (arith, c.in_ok-window.ensures.len) in
    c.from_vec-2.ensures
    ∙ whole_window c.show_pages.new.window _ c.in_ok-window.window.len (omega arith)
    ∙ window_is_read (first_bytes (byte_in c.self.inside.pages) c.self.inside.size) c.show_pages.new.window c.args.off c.args.len long
    (λ k h. c.show_pages.ensures k h ∙ sym (kept_at c.self.inside.pages c.self.inside.size (c.args.off + k) c.self.invariant))
    ∙ ap (λ bytes. read_at bytes c.args.off c.args.len) c.self.view_is
