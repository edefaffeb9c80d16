mod SourceOrder
