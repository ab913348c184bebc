pub mod Sink
pub mod MemSink
pub mod StdSink
