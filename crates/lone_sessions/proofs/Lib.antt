pub mod DeferredProgress
