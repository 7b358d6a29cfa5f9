use Rattle.std.proofs.Common.{◌≡◌, List, ℕ, [], ◌∷◌, ◌++◌, sym, subst}
use Rattle.tau_base.specs.declared.format.Format.{Format}
use Rattle.tau_block.specs.Image.{format_in, header_of}
use Rattle.tau_stream_runs.proofs.reopen.head_of.Goals as goal

pub returns-in-One-clause-bytes : goal.returns-in-One-clause-bytes
returns-in-One-clause-bytes c =
    subst (λ (f : Format). c.header.result ≡ header_of f c.args.named.streams c.args.named.index ++ 0 ∷ []) (sym c.in-One.is) c.header.ensures.bytes

pub returns-in-One-clause-format : goal.returns-in-One-clause-format
returns-in-One-clause-format c = subst (λ (f : Format). format_in c.header.result ≡ f) (sym c.in-One.is) c.header.ensures.format

pub returns-in-Two-clause-bytes : goal.returns-in-Two-clause-bytes
returns-in-Two-clause-bytes c =
    subst (λ (f : Format). c.header_wide.result ≡ header_of f c.args.named.streams c.args.named.index ++ 0 ∷ []) (sym c.in-Two.is) c.header_wide.ensures.bytes

pub returns-in-Two-clause-format : goal.returns-in-Two-clause-format
returns-in-Two-clause-format c = subst (λ (f : Format). format_in c.header_wide.result ≡ f) (sym c.in-Two.is) c.header_wide.ensures.format
