use denote.Exit.{unseen}
use denote.Param.Send.{Quiet-if}
use mir.Syntax.{of_param}
use Rattle.tau_crew.proofs.together.flush_and_tell.Goals as goal

pub join_mut-requires-after_bounds : goal.join_mut-requires-after_bounds
join_mut-requires-after_bounds g c κs within =
    let b = c.type_bounds in (
      (record { shared = b.sync-R.shared }, record { shared = b.sync-G.shared }, c.requires.clerk),
      (
        (record { shared = b.sync-R.shared }, record { shared = b.sync-G.shared }, c.requires.managers, c.requires.some),
        (record { owned = b.send-D.owned; leaving = λ k. Quiet-if (k (of_param 1)) unseen unseen (λ x w. tt) (λ x w. tt) }, record { shared = b.sync-R.shared }, record { shared = b.sync-G.shared }),
      ),
    )
